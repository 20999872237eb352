-- What a mount asks of a table of which nothing is in memory. It is less than each run keeps: page numbers need only fit, and a blob may
-- begin on a void page.
use Rattle.std.specs.Prelude.{◌≡◌, ◌⊎◌, ℕ, ◌+◌, ◌<◌, ◌≤◌, false, nat_lt, if◌then◌else◌, Some, None, IfSome, List, [], length, sum, slice_get}
use Rattle.std.specs.List.{AllByRecursion, list_any}
use Rattle.fl_model.specs.Agrees.{TellPages, BlobsOf}
use Rattle.fl_model.specs.Facts.{FitsPlan, IsContent, counts_in, is_some_ring}
use Rattle.fl_model.specs.Index.{IndexPage}
use Rattle.fl_model.specs.Mount.{index_end, blob_end}
use Rattle.fl_model.specs.Record.{Plan, has_index, has_var, rows_per_page, entries_per_page}
use Rattle.fl_model.specs.Ring.{IsRing, oldest}
use Rattle.fl_model.specs.Table.{Table, Entry, RingName, DataRing, IndexRing, VarRing, shape_of, ring_of, firsts, full_pages, lose, spent_from}
use Rattle.fl_parts.specs.Blobs.{AreLed}

-- no kept page has rows
abbrev pub AreVoid : List ℕ → Type 0
AreVoid counts = list_any (nat_lt 0) counts ≡ false

-- The pages of a table without a log fit one another, and so do their numbers: one more of each ring whose next page is torn is below 2 ^ 32.
pub record IsPaged (plan : Plan) (table : Table) : Type 0 where
  pub rows : IsRing (shape_of plan DataRing) table.rows
  pub index : IfSome table.index (IsRing (shape_of plan IndexRing))
  pub var : IfSome table.var (IsRing (shape_of plan VarRing))
  pub has_rings : (is_some_ring table.index ≡ has_index plan) × (is_some_ring table.var ≡ has_var plan)
  pub unlogged : (table.log ≡ None) × (table.logged ≡ []) × (table.logged_before ≡ [])
  pub fit : AllByRecursion (FitsPlan plan) table.entries
  pub counted : sum table.rows.counts ≡ length table.entries
  pub few_rows : AllByRecursion (λ count. count ≤ rows_per_page plan) table.rows.counts
  pub ascending : (i j : ℕ) (a b : Entry) → i < j → slice_get table.entries i ≡ Some a → slice_get table.entries j ≡ Some b → a.kept.key < b.kept.key
  pub index_counts : AllByRecursion (λ count. (count ≡ 0) ⊎ (count ≡ entries_per_page plan)) (counts_in table.index)
  pub index_each : length table.index_pages ≡ full_pages (counts_in table.index)
  pub index_fit : AllByRecursion (λ page. length page.entries ≡ entries_per_page plan) table.index_pages
  pub firsts : (i j a b : ℕ) → i < j → slice_get (firsts table) i ≡ Some a → slice_get (firsts table) j ≡ Some b → a + entries_per_page plan ≤ b
  pub listed : index_end plan table ≤ table.rows.next
  pub tell : (k : ℕ) (page : IndexPage) → slice_get table.index_pages k ≡ Some page → TellPages plan table page.first page.entries
  pub var_counts : AllByRecursion (λ count. (count ≡ 0) ⊎ (count ≡ 1)) (counts_in table.var)
  pub var_each : length table.var_pages ≡ full_pages (counts_in table.var)
  pub var_fit : AllByRecursion (IsContent plan) table.var_pages
  pub led : IfSome table.var (λ ring. AreLed plan ring table.entries)
  pub stand : IfSome table.var (BlobsOf plan table)
  pub numbers : (name : RingName) → IfSome (ring_of name table) (λ ring. ring.next + (if ring.torn then 1 else 0) ≤ 4294967295)

-- blobs begin before the pages of a ring of variable data that are all void
abbrev pub BlobsBefore : Table → Type 0
BlobsBefore table = IfSome table.var (λ ring. AreVoid ring.counts → blob_end table ≤ oldest ring)

-- a data ring whose pages are all void has numbers left where it is numbered anew behind what the index lists
abbrev pub RowsBehind : Plan → Table → Type 0
RowsBehind plan table =
    AreVoid table.rows.counts → oldest table.rows < index_end plan table → 0 < length table.rows.counts → table.rows.next + (if table.rows.torn then 1 else 0) ≤ spent_from + 1

-- Of such a table nothing is in memory, and a ring whose pages are all void can be numbered anew.
pub record IsMountable (plan : Plan) (table : Table) : Type 0 where
  pub lost : table ≡ lose table
  pub paged : IsPaged plan table
  pub behind : RowsBehind plan table
  pub before : BlobsBefore table
