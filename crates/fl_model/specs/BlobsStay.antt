-- Laws on blobs that aren't gone: they stand where a record joins, where pages of variable data are sealed, as long as their first
-- pages are kept, where records are given up, and, if their records are written, where a table is lost.
use Rattle.std.specs.Prelude.{◌≡◌, ℕ, ◌<◌, ◌≤◌, Some, length}
use Rattle.fl_model.specs.Record.{Record, Plan, content_per_page}
use Rattle.fl_model.specs.Ring.{Ring, IsShape, sealed}
use Rattle.fl_model.specs.Table.{Table, DataRing, VarRing, shape_of, fill, full_pages, seal_page, seal_buffer, with_record, lose}
use Rattle.fl_model.specs.Agrees.{BlobsOf}
use Rattle.fl_model.specs.Facts.{IsTable}

pub record BlobsStay : Type 0 where
  pub joined : (plan : Plan) (item : Record) (table : Table) (ring : Ring) → 0 < content_per_page plan → fill table ≤ content_per_page plan → table.var ≡ Some ring →
      BlobsOf plan table ring → BlobsOf plan (with_record plan item table) ring
  pub sealed : (plan : Plan) (table : Table) (ring : Ring) → IsShape (shape_of plan VarRing) → table.var ≡ Some ring → length ring.counts ≤ ring.next → length table.var_pages ≡ full_pages ring.counts →
      BlobsOf plan table ring → BlobsOf plan (seal_buffer plan VarRing table) (sealed (shape_of plan VarRing) 1 ring)
  -- a data page is sealed or voided, and the records of the oldest are given up
  pub given_up : (plan : Plan) (table : Table) (ring : Ring) (count : ℕ) → BlobsOf plan table ring → BlobsOf plan (seal_page plan DataRing count table) ring
  pub lost : (plan : Plan) (table : Table) (ring : Ring) → IsTable plan table → table.var ≡ Some ring → BlobsOf plan table ring → BlobsOf plan (lose table) ring
