-- Laws on index entries that tell more of a data page than its bitmap.
use Rattle.std.specs.Prelude.{◌≡◌, ℕ, ◌*◌, ◌≤◌, max, false, nat_lt, map, fold, length, sum, IsTrue, Some, slice_get}
use Rattle.std.specs.List.{list_any}
use Rattle.fl_model.specs.Record.{Plan, has_index, has_var, has_log, blocks_of}
use Rattle.fl_model.specs.Ring.{IsShape, oldest}
use Rattle.fl_model.specs.Table.{Table, DataRing, IndexRing, VarRing, LogRing, shape_of}
use Rattle.fl_model.specs.Spline.{pages_of}
use Rattle.fl_model.specs.Index.{IndexPage, full_of}
use Rattle.fl_model.specs.Limits.{is_indexed, is_listed}
use Rattle.fl_model.specs.MountLimit.{full_mount_limit}
use Rattle.fl_model.specs.Mount.{index_end, blob_end, renumber}
use Rattle.fl_model.specs.Facts.{IsTable}
use Rattle.fl_model.specs.Agrees.{TellPages}

-- No index page lists a data page from the end of the index on, and no data page that is still to be sealed is indexed. So it is with
-- the pages of a data ring that are all void, once the ring has its numbers: a void page never gets the number of one of which an
-- entry tells rows.
pub record EndsListing : Type 0 where
  pub behind : (plan : Plan) (table : Table) (number : ℕ) → IsTable plan table → index_end plan table ≤ number → is_listed plan table number ≡ false
  pub unsealed : (plan : Plan) (table : Table) (number : ℕ) → IsTable plan table → table.rows.next ≤ number → is_indexed plan table number ≡ false
  pub renumbered : (plan : Plan) (table : Table) (number : ℕ) → IsTable plan table → list_any (nat_lt 0) table.rows.counts ≡ false →
      oldest (renumber plan DataRing table).rows ≤ number → is_listed plan (renumber plan DataRing table) number ≡ false

-- So what the entries of the index pages tell of a data ring they tell of it with its numbers.
abbrev pub EntriesStand : Type 0
EntriesStand =
    (plan : Plan) (table : Table) (k : ℕ) (page : IndexPage) → IsTable plan table → slice_get table.index_pages k ≡ Some page →
    TellPages plan table page.first page.entries → TellPages plan (renumber plan DataRing table) page.first page.entries

-- The greatest blob end that the pages tell is that of the table, where no row is pending.
abbrev pub PagesTellBlobs : Type 0
PagesTellBlobs =
    (table : Table) → sum table.rows.counts ≡ length table.entries →
    fold max 0 (map (λ page. (full_of page.1).blob_end) (pages_of table)) ≡ blob_end table

-- A mount by full entries reads no more than four times the pages of its rings.
abbrev pub FullMountsAreShort : Type 0
FullMountsAreShort =
    (plan : Plan) (before after : Table) → IsTable plan before → IsTable plan after →
    IsShape (shape_of plan DataRing) → (IsTrue (has_index plan) → IsShape (shape_of plan IndexRing)) → (IsTrue (has_var plan) → IsShape (shape_of plan VarRing)) →
    (IsTrue (has_log plan) → IsShape (shape_of plan LogRing)) →
    full_mount_limit plan before after ≤ 4 * (blocks_of plan * plan.geometry.block)
