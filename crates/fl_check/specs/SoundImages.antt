-- The pages of a sound table are the image of a table of the model, of which all facts hold that its rules give.
use Rattle.std.specs.Prelude.{◌≡◌, ℕ, ◌+◌, ◌-◌, ◌^◌, ◌<◌, ◌≤◌, ◌⊎◌, true, false, nat_lt, IsTrue, if◌then◌else◌, Option, Some, None, IfSome, List, [], length, map, filter, sum, slice_get}
use Rattle.std.specs.List.{AllByRecursion, list_any}
use Rattle.fl_base.specs.declared.types.RingPlace.{RingPlace}
use Rattle.fl_flash.specs.Flash.{FlashState, page_at}
use Rattle.fl_flash.specs.Places.{extent}
use Rattle.fl_model.specs.Agrees.{TellPages, HoldsBlob, reach_of}
use Rattle.fl_model.specs.Facts.{FitsPlan, IsContent, IsLogPage, IsSettled, counts_in, is_some_ring}
use Rattle.fl_model.specs.Image.{IsRingImage, HoldsRows, HoldsEntries, HoldsContent, HoldsLogged}
use Rattle.fl_model.specs.Index.{IndexPage}
use Rattle.fl_model.specs.Log.{IsLog}
use Rattle.fl_model.specs.Mount.{index_end, blob_end}
use Rattle.fl_model.specs.Query.{page_stands}
use Rattle.fl_model.specs.Record.{Plan, has_index, has_var, has_log, rows_per_page, entries_per_page}
use Rattle.fl_model.specs.Ring as model
use Rattle.fl_model.specs.Table.{Table, Entry, RingName, ring_of, firsts, full_pages, has_rows, is_spent, log_pages, lose, spent_from}
use Rattle.fl_plan.specs.Plan.{Label, blocks_in, plan_of_table, with_log}
use Rattle.fl_plan.specs.declared.table_config.TableConfig.{TableConfig}
use Rattle.fl_ring.specs.Counts.{model_shape}
use Rattle.fl_ring.specs.Ring.{Shape, place}
use Rattle.fl_check.specs.Whole.{Fits, LogFits, IsFinding, IsSound, shape_in, rows_shape}
use Rattle.fl_check.specs.declared.finding.Finding.TheVariants.{Sound}
use Rattle.fl_rules.specs.declared.numbering.Numbering.{Numbering}
use Rattle.fl_check.specs.declared.table.TableNumbers.{TableNumbers}

-- a ring of the model, whose image the pages of a ring are; `Holds` says what its kept pages hold
pub record RingImage (page : ℕ → List ℕ) (r : Shape) (ring : model.Ring) (Holds : ℕ → ℕ → List ℕ → Type 0) : Type 0 where
  pub is : model.IsRing (model_shape r) ring
  pub pages : IsRingImage (model_shape r) ring (λ number. page (place r number)) Holds

-- .. of a ring that a table may not have
abbrev pub OfPlace : (RingPlace → model.Ring → Type 0) → Option RingPlace → Option model.Ring → Type 0
OfPlace Holds None None = Unit {0}
OfPlace Holds (Some place) (Some ring) = Holds place ring
OfPlace Holds None (Some ring) = ⊥
OfPlace Holds (Some place) None = ⊥

-- the pages of each ring of a table between two runs
pub record TableImage (config : TableConfig) (log : Option RingPlace) (page : ℕ → List ℕ) (plan : Plan) (table : Table) : Type 0 where
  pub lost : table ≡ lose table
  pub rows : RingImage page (rows_shape config) table.rows (HoldsRows plan table)
  pub index : OfPlace (λ place ring. RingImage page (shape_in config place) ring (HoldsEntries plan table ring)) config.index table.index
  pub var : OfPlace (λ place ring. RingImage page (shape_in config place) ring (HoldsContent table ring)) config.var table.var
  pub logged : OfPlace (λ place ring. RingImage page (shape_in config place) ring (HoldsLogged plan table ring)) log table.log

-- A row leads to its blob: its first page was written, and where that page stands, all pages of the blob were, and have its bytes.
pub record LeadsToBlob (plan : Plan) (table : Table) (ring : model.Ring) (entry : Entry) (blob : List ℕ) : Type 0 where
  pub written : entry.page < ring.next
  pub reaches : page_stands ring entry.page ≡ true → entry.page + reach_of plan entry blob < ring.next
  pub holds : page_stands ring entry.page ≡ true → HoldsBlob plan table ring entry blob

abbrev pub BlobsLead : Plan → Table → model.Ring → Type 0
BlobsLead plan table ring =
    (i : ℕ) (entry : Entry) (blob : List ℕ) → slice_get table.entries i ≡ Some entry → entry.kept.blob ≡ Some blob → 0 < length blob → LeadsToBlob plan table ring entry blob

-- the facts of a table that the rules give
pub record PagesFit (plan : Plan) (table : Table) : Type 0 where
  pub has_rings : (is_some_ring table.index ≡ has_index plan) × (is_some_ring table.var ≡ has_var plan) × (is_some_ring table.log ≡ has_log plan)
  pub counted : sum table.rows.counts ≡ length table.entries
  pub few_rows : AllByRecursion (λ count. count ≤ rows_per_page plan) table.rows.counts
  pub fit : AllByRecursion (FitsPlan plan) table.entries
  pub ascending : (i j : ℕ) (a b : Entry) → i < j → slice_get table.entries i ≡ Some a → slice_get table.entries j ≡ Some b → a.kept.key < b.kept.key
  pub index_counts : AllByRecursion (λ count. (count ≡ 0) ⊎ (count ≡ entries_per_page plan)) (counts_in table.index)
  pub index_each : length table.index_pages ≡ full_pages (counts_in table.index)
  pub index_fit : AllByRecursion (λ page. length page.entries ≡ entries_per_page plan) table.index_pages
  pub var_counts : AllByRecursion (λ count. (count ≡ 0) ⊎ (count ≡ 1)) (counts_in table.var)
  pub var_each : length table.var_pages ≡ full_pages (counts_in table.var)
  pub var_fit : AllByRecursion (IsContent plan) table.var_pages
  pub log_counts : AllByRecursion (λ count. count ≤ rows_per_page plan) (counts_in table.log)
  pub log_each : map (λ rows. length rows) (log_pages table) ≡ filter (nat_lt 0) (counts_in table.log)
  pub log_fit : AllByRecursion (IsLogPage plan) (log_pages table)
  pub logged_some : has_rows table.log ≡ false → table.logged ≡ []
  -- what its index lists ascends, ends before the next data page, and tells of its data pages
  pub firsts : (i j a b : ℕ) → i < j → slice_get (firsts table) i ≡ Some a → slice_get (firsts table) j ≡ Some b → a + entries_per_page plan ≤ b
  pub listed : index_end plan table ≤ table.rows.next
  pub tell : (k : ℕ) (page : IndexPage) → slice_get table.index_pages k ≡ Some page → TellPages plan table page.first page.entries
  -- its rows lead to their blobs
  pub blobs : IfSome table.var (BlobsLead plan table)

-- a ring has the next number that is told, and numbers fit their bytes with a void page more where the next page is torn
abbrev pub IsNumbered : Option Numbering → Option model.Ring → Type 0
IsNumbered None None = Unit {0}
IsNumbered (Some n) (Some ring) = (ring.next ≡ n.next) × (ring.next + (if ring.torn then 1 else 0) < 2 ^ 32)
IsNumbered None (Some ring) = ⊥
IsNumbered (Some n) None = ⊥

-- The numbers of a table's rings are those that the rules give to the pages: what its pages tell, and where a ring has no committed page,
-- the least ones that a mount may give them.
pub record AreNumbered (config : TableConfig) (log : Option RingPlace) (page : ℕ → List ℕ) (table : Table) : Type 0 where
  pub t : TableNumbers
  pub sound : IsSound config log page t
  pub rows : IsNumbered (Some t.rows) (Some table.rows)
  pub index : IsNumbered t.index table.index
  pub var : IsNumbered t.var table.var
  pub logged : IsNumbered t.log table.log

-- Where no page of the data ring is committed, all of its numbers are behind those that the index lists; where none of the ring of variable
-- data is, they are behind the pages that rows name.
pub record AreBehind (plan : Plan) (table : Table) : Type 0 where
  pub rows : list_any (nat_lt 0) table.rows.counts ≡ false → index_end plan table + length table.rows.counts ≤ table.rows.next
  pub var : IfSome table.var (λ ring. list_any (nat_lt 0) ring.counts ≡ false → blob_end table + length ring.counts ≤ ring.next)

-- ---- a table that the model mounts

-- Page numbers are left: for the void pages of repairs, and for a data ring that is numbered anew behind what its index lists.
pub record NumbersAreLeft (plan : Plan) (table : Table) : Type 0 where
  pub each : (name : RingName) → IfSome (ring_of name table) (λ ring. ring.next + (if ring.torn then 1 else 0) ≤ 4294967292)
  pub listed : model.oldest table.rows < index_end plan table → 0 < length table.rows.counts → table.rows.next + (if table.rows.torn then 1 else 0) ≤ spent_from + 1

-- what each run keeps of a table, and no rule asks for: numbers are left, and no blob begins in a void page
pub record IsAsRunsLeave (plan : Plan) (table : Table) : Type 0 where
  pub numbers : NumbersAreLeft plan table
  pub begin : (i : ℕ) (entry : Entry) (blob : List ℕ) → slice_get table.entries i ≡ Some entry → entry.kept.blob ≡ Some blob → 0 < length blob →
      IfSome table.var (λ ring. model.oldest ring ≤ entry.page → slice_get ring.counts (entry.page - model.oldest ring) ≡ Some 0 → ⊥)

-- All facts of the model hold of such a table where those of its log do.
pub record StandsSettled (plan : Plan) (table : Table) : Type 0 where
  pub settled : IsAsRunsLeave plan table → IsLog table → IsSettled plan table
  -- numbers are left while no put is refused for want of them
  pub unspent : is_spent table ≡ false → NumbersAreLeft plan table
  -- a table without a log owes nothing
  pub unlogged : table.log ≡ None → IsLog table

-- a table whose image the pages are, with as many rows, kept data pages and void ones as a check tells
pub record HasImage (config : TableConfig) (log : Option RingPlace) (page : ℕ → List ℕ) (plan : Plan) (rows pages voids : ℕ) : Type 0 where
  pub table : Table
  pub image : TableImage config log page plan table
  pub fit : PagesFit plan table
  pub numbered : AreNumbered config log page table
  pub behind : AreBehind plan table
  pub stands : StandsSettled plan table
  pub rows_are : length table.entries ≡ rows
  pub pages_are : length table.rows.counts ≡ pages
  pub voids_are : full_pages table.rows.counts + voids ≡ pages

-- where a check finds a table sound, on a flash whose medium reaches to its end: the plan has any name, base and width
abbrev pub SoundImages : Type 0
SoundImages =
    (label : Label) (config : TableConfig) (log : Option RingPlace) (f : FlashState) (rows pages voids : ℕ) → Fits config f → LogFits log f →
    f.start + extent f.geometry f.blocks ≤ length f.media.content → IsTrue f.media.tells →
    IsFinding config log (page_at f) (Sound rows pages voids) → HasImage config log (page_at f) (with_log (blocks_in log) (plan_of_table label config)) rows pages voids
