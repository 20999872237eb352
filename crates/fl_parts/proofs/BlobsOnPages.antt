-- The blobs of a table where no byte of them waits: all are in the pages of their ring.
use Rattle.std.proofs.Common.{ℕ, ◌+◌, Option, Some, None, ◌∙◌}
use Rattle.fl_flash.specs.Flash.{FlashState}
use Rattle.fl_model.specs.Record.{Plan}
use Rattle.fl_model.specs.Table.{Table}
use Rattle.fl_parts.specs.Blobs.{AreEmpty, ArePlanned, Stand}
use Rattle.fl_parts.proofs.BlobTables.{AreInPages, IsBlobbed, blobbed-stand, in-blobbed}
use Rattle.fl_parts.proofs.BlobsOfTable.{none-var}
use Rattle.fl_parts.proofs.VarFacts.{in-placed}
use Rattle.fl_var.specs.declared.var_data.VarData.{VarData}

pub settled-pages : (blobs : Option VarData) (f : FlashState) (first : ℕ) (plan : Plan) (table : Table) → ArePlanned blobs (first + plan.data_blocks + plan.index_blocks) plan → IsBlobbed plan table → Stand blobs f (first + plan.data_blocks + plan.index_blocks) plan table →
    AreEmpty blobs → AreInPages plan table table.entries
settled-pages None f first plan table planned facts s empty = λ i entry blob e k some. rw (none-var (first + plan.data_blocks + plan.index_blocks) plan table planned facts) tt
settled-pages (Some v) f first plan table planned facts s empty =
    let has = s.in_pages.ring in
    in-blobbed plan table has.ring table.entries has.ring_is (in-placed plan table has.ring (s.in_pages.buffered ∙ empty) s.placed (blobbed-stand plan table has.ring has.ring_is facts))
