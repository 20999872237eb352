-- Laws on what index entries tell: it goes on where data and index pages are sealed, voided and given up, where a table is mounted,
-- and where it is lost.
use Rattle.std.specs.Prelude.{◌≡◌, ℕ, ◌+◌, ◌-◌, ◌≤◌, List, length, sum, slice_get, Some, IsTrue}
use Rattle.fl_model.specs.Record.{Plan, has_index, entries_per_page}
use Rattle.fl_model.specs.Index.{IndexEntry, IndexPage}
use Rattle.fl_model.specs.Table.{Table, DataRing, IndexRing, seal_page, seal_buffer, lose}
use Rattle.fl_model.specs.Mount.{ready}
use Rattle.fl_model.specs.Agrees.{TellPages}
use Rattle.fl_model.specs.Facts.{IsTable}

pub record TellingStays : Type 0 where
  -- a data page is sealed with so many rows, or voided, and the oldest are given up: entries of pages before it tell what they told
  pub sealed : (plan : Plan) (table : Table) (count first : ℕ) (entries : List IndexEntry) → length table.rows.counts ≤ table.rows.next → first + length entries ≤ table.rows.next →
      TellPages plan table first entries → TellPages plan (seal_page plan DataRing count table) first entries
  -- the pending rows are sealed: the entries that wait tell of their pages, the new one too
  pub marked : (plan : Plan) (table : Table) → IsTable plan table → IsTrue (has_index plan) →
      TellPages plan (seal_buffer plan DataRing table) ((seal_buffer plan DataRing table).rows.next - length (seal_buffer plan DataRing table).waiting) (seal_buffer plan DataRing table).waiting
  -- a full list of entries is sealed: each index page tells of its pages, the new one too; and so they do where one is voided
  pub listed : (plan : Plan) (table : Table) → IsTable plan table → length table.waiting ≡ entries_per_page plan → (k : ℕ) (page : IndexPage) →
      slice_get (seal_buffer plan IndexRing table).index_pages k ≡ Some page → TellPages plan (seal_buffer plan IndexRing table) page.first page.entries
  pub voided : (plan : Plan) (table : Table) → IsTable plan table → (k : ℕ) (page : IndexPage) →
      slice_get (seal_page plan IndexRing 0 table).index_pages k ≡ Some page → TellPages plan (seal_page plan IndexRing 0 table) page.first page.entries
  -- a table was mounted: so do the entries that wait then
  pub ready : (plan : Plan) (table : Table) → length table.rows.counts ≤ table.rows.next →
      TellPages plan (ready plan table) (table.rows.next - length (ready plan table).waiting) (ready plan table).waiting
  -- what is in memory alone is lost
  pub lost : (plan : Plan) (table : Table) (first : ℕ) (entries : List IndexEntry) → sum table.rows.counts + table.pending ≡ length table.entries →
      TellPages plan table first entries → TellPages plan (lose table) first entries
