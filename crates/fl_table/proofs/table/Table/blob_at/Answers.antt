use Rattle.std.proofs.Common.{◌≡◌, ◌+◌, Option, Some, None, Result, Ok, Err, ap, sym, ◌∙◌, subst}
use Rattle.std.specs.Prelude.{◌≤◌, IfOk, IfErr, IfSome}
use Rattle.fl_page.specs.declared.fault.ReadFault.{ReadFault}
use Rattle.fl_base.specs.declared.types.Geometry.{Geometry}
use Rattle.fl_parts.specs.Blobs.{Stand, LieOn}
use Rattle.fl_var.specs.Memory as memory
use Rattle.fl_var.specs.Reading.{IsOfPage, Opens}
use Rattle.fl_var.specs.declared.reader.BlobReader.{BlobReader}
use Rattle.fl_var.specs.declared.var_data.VarData.{VarData}
use Rattle.fl_model.specs.Agrees.{BlobsOf}
use Rattle.fl_model.specs.Record.{Plan}
use Rattle.fl_model.specs.Ring.{Ring}
use Rattle.fl_model.specs.Table.{Table}
use Rattle.fl_parts.proofs.IndexOfTable.{none-is}
use Rattle.fl_table.proofs.ReadsKeepTable.{lies-still}
use Rattle.fl_table.proofs.table.Table.blob_at.Goals as goal

-- what follows from what is said of the reader that is answered
opened : (P Q : BlobReader → Type 0) (result : Result (Option BlobReader) ReadFault) → IfOk result (λ reader. IfSome reader P) → ((r : BlobReader) → P r → Q r) → IfOk result (λ reader. IfSome reader Q)
opened P Q (Ok (Some r)) h then = then r h
opened P Q (Ok None) h then = h
opened P Q (Err e) h then = h

-- the blobs of a ring, where a table has it
blobs_of : (plan : Plan) (table : Table) (ring : Ring) (o : Option Ring) → o ≡ Some ring → IfSome o (BlobsOf plan table) → BlobsOf plan table ring
blobs_of plan table ring None e h = cc
blobs_of plan table ring (Some r) e h = let same : r ≡ ring = cc in subst (BlobsOf plan table) same h

pub returns-clause-var : goal.returns-clause-var
returns-clause-var g c = opened _ _ c.open_blob.result c.open_blob.ensures.data
    (λ r h. (ap Some h.0 ∙ sym c.in-Some.is, h.1))

pub returns-clause-data : goal.returns-clause-data
returns-clause-data g c = opened _ _ c.open_blob.result c.open_blob.ensures.data
    (λ r h. subst (λ (v : VarData). memory.LiesOn v (g.F.Flash.state c.open_blob.new.flash)) (sym h.0) c.open_blob.ensures.lies)

pub returns-clause-finds : goal.returns-clause-finds
returns-clause-finds g c = λ first plan table i entry bytes told stands slot blob at_is.
    let f = g.F.Flash.state c.args.flash.now in
    let v = c.in-Some.var in
    let here = first + plan.data_blocks + plan.index_blocks in
    let standing = subst (λ (o : Option VarData). Stand o f here plan table) c.in-Some.is stands.blobs in
    c.open_blob.ensures.finds plan table entry bytes told standing.in_pages blob at_is
    (λ ring ring_is kept some. blobs_of plan table ring table.var ring_is stands.facts.agrees.blobs i entry bytes slot blob some kept)

pub returns-clause-lies : goal.returns-clause-lies
returns-clause-lies g c = lies-still c.args.self.now (g.F.Flash.state c.args.flash.now) (g.F.Flash.state c.open_blob.new.flash) 1 c.open_blob.ensures.reads c.requires.lies

pub returns-clause-pending : goal.returns-clause-pending
returns-clause-pending g c =
    subst (λ (o : Option VarData). IfSome o (λ var. memory.next_in var ≤ c.args.at.page → (g.F.Flash.state c.open_blob.new.flash ≡ g.F.Flash.state c.args.flash.now) × IfErr c.open_blob.result IsOfPage)) (sym c.in-Some.is) c.open_blob.ensures.pending

pub returns-clause-reads : goal.returns-clause-reads
returns-clause-reads g c = c.open_blob.ensures.reads

pub returns-clause-counts : goal.returns-clause-counts
returns-clause-counts g c = c.open_blob.ensures.counts

pub returns-clause-empty : goal.returns-clause-empty
returns-clause-empty g c = c.open_blob.ensures.empty

pub returns-clause-buffer : goal.returns-clause-buffer
returns-clause-buffer g c = c.open_blob.ensures.buffer

pub returns-clause-none : goal.returns-clause-none
returns-clause-none g c = c.open_blob.ensures.none

pub returns-clause-fails : goal.returns-clause-fails
returns-clause-fails g c = c.open_blob.ensures.fails

pub unreachable-requires : goal.unreachable-requires
unreachable-requires g c = none-is c.args.self.now.blobs c.in_default.is c.requires.some

pub unreachable-unreachable : goal.unreachable-unreachable
unreachable-unreachable g c = c.unreachable.type_inv

pub open_blob-requires-clause-mounted : goal.open_blob-requires-clause-mounted
open_blob-requires-clause-mounted g c = c.args.self.now.blobs_running c.requires.running c.in-Some.var c.in-Some.is

pub open_blob-requires-clause-lies : goal.open_blob-requires-clause-lies
open_blob-requires-clause-lies g c = subst (λ (o : Option VarData). LieOn o (g.F.Flash.state c.args.flash.now)) c.in-Some.is c.requires.lies.blobs

pub open_blob-requires-clause-room : goal.open_blob-requires-clause-room
open_blob-requires-clause-room g c =
    let lies = subst (λ (o : Option VarData). LieOn o (g.F.Flash.state c.args.flash.now)) c.in-Some.is c.requires.lies.blobs in
    c.requires.room ∙ ap (λ (x : Geometry). x.page) lies.geometry

pub returns-clause-opens : goal.returns-clause-opens
returns-clause-opens g c = λ told.
    subst (λ (o : Option VarData). IfSome o (λ var. Opens var (g.F.Flash.state c.args.flash.now) c.args.at c.open_blob.result)) (sym c.in-Some.is) (c.open_blob.ensures.opens told)
