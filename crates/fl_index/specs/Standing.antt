-- An index in memory and a flash, and the index of the table of the model for which they stand.
use Rattle.std.specs.Prelude.{◌≡◌, ◌⊎◌, ℕ, ◌+◌, ◌-◌, ◌*◌, ◌%◌, ◌^◌, ◌<◌, ◌≤◌, false, ◌==◌, Option, Some, None, List, [], length, take, sum, slice_get, if◌then◌else◌}
use Rattle.std.specs.List.{AllByRecursion}
use Rattle.fl_flash.specs.Flash.{FlashState, page_at}
use Rattle.fl_model.specs.Record.{Plan, entries_per_page}
use Rattle.fl_model.specs.Ring.{Ring, IsRing, oldest}
use Rattle.fl_model.specs.Table.{Table, IndexRing, shape_of, full_pages, firsts}
use Rattle.fl_model.specs.Image.{IsRingImage, HoldsEntries}
use Rattle.fl_model.specs.Agrees.{TellPages}
use Rattle.fl_model.specs.Layout.{IndexEntry, IndexPage}
use Rattle.fl_model.specs.Mount.{index_end}
use Rattle.fl_ring.specs.Place as memory
use Rattle.fl_ring.specs.declared.ring.Ring as code
use Rattle.fl_index.specs.declared.index.BitmapIndex.{BitmapIndex}
use Rattle.fl_index.specs.Memory.{IsPlanned, first_in, first_waiting, waiting_in, Gathers}

-- the bytes at the place of a number of the index ring, whose blocks begin at `first`
abbrev pub bytes_in : (ℕ → List ℕ) → ℕ → Plan → ℕ → List ℕ
bytes_in page first plan number =
    let shape = shape_of plan IndexRing in page (first * shape.pages + number % (shape.blocks * shape.pages))

-- the pages of the index ring hold what the table's index lists
abbrev pub HoldsIndex : (ℕ → List ℕ) → ℕ → Plan → Table → Ring → Type 0
HoldsIndex page first plan table ring = IsRingImage (shape_of plan IndexRing) ring (bytes_in page first plan) (HoldsEntries plan table ring)

-- what holds of the index of a table in each state
pub record HasIndex (plan : Plan) (table : Table) (ring : Ring) : Type 0 where
  pub ring_is : table.index ≡ Some ring
  pub is_ring : IsRing (shape_of plan IndexRing) ring
  pub counts : AllByRecursion (λ count. (count ≡ 0) ⊎ (count ≡ entries_per_page plan)) ring.counts
  pub index_each : length table.index_pages ≡ full_pages ring.counts
  pub index_fit : AllByRecursion (λ page. length page.entries ≡ entries_per_page plan) table.index_pages
  pub firsts : (i j a b : ℕ) → i < j → slice_get (firsts table) i ≡ Some a → slice_get (firsts table) j ≡ Some b → a + entries_per_page plan ≤ b
  pub waiting : length table.waiting ≤ entries_per_page plan
  pub listed : index_end plan table + length table.waiting ≤ table.rows.next
  -- what the index pages and the waiting entries tell
  pub tell : (k : ℕ) (page : IndexPage) → slice_get table.index_pages k ≡ Some page → TellPages plan table page.first page.entries
  pub wait : TellPages plan table (table.rows.next - length table.waiting) table.waiting
  pub counted : sum table.rows.counts + table.pending ≡ length table.entries
  pub number : ring.next + (if ring.torn then 1 else 0) < 2 ^ 32
  pub rows_number : table.rows.next < 2 ^ 32

-- a flash stands for the index of a table of which nothing is in memory
pub record Rests (f : FlashState) (first : ℕ) (plan : Plan) (table : Table) : Type 0 where
  pub ring : Ring
  pub facts : HasIndex plan table ring
  pub idle : table.waiting ≡ []
  pub pages : HoldsIndex (page_at f) first plan table ring

-- the first data page that the kept index page at a place lists, which holds so many entries
abbrev pub first_told : Plan → Table → Ring → ℕ → ℕ → Option ℕ
first_told plan table ring i count = if count == 0 then None else slice_get (firsts table) (full_pages (take i ring.counts))

-- what is remembered of the kept index pages: the first data page of each of them ..
abbrev pub RemembersAll : BitmapIndex → Plan → Table → Ring → Type 0
RemembersAll index plan table ring = (i count : ℕ) → slice_get ring.counts i ≡ Some count → first_in index (oldest ring + i) ≡ first_told plan table ring i count

-- .. or of those below a number
abbrev pub RemembersBelow : ℕ → BitmapIndex → Plan → Table → Ring → Type 0
RemembersBelow number index plan table ring =
    (i count : ℕ) → oldest ring + i < number → slice_get ring.counts i ≡ Some count → first_in index (oldest ring + i) ≡ first_told plan table ring i count

-- the ring in memory and on a flash is that of the table's index, which has no torn page, and no block that waits for its erase
pub record StandsWith (Remembers : BitmapIndex → Plan → Table → Ring → Type 0) (index : BitmapIndex) (f : FlashState) (first : ℕ) (plan : Plan) (table : Table) : Type 0 where
  pub planned : IsPlanned index first plan
  pub ring : Ring
  pub facts : HasIndex plan table ring
  pub whole : ring.torn ≡ false
  pub clean : ring.dirty ≡ false
  pub pages : HoldsIndex (page_at f) first plan table ring
  pub in_memory : code.Ring
  pub memory_is : index.ring ≡ Some in_memory
  pub next : memory.next_of in_memory ≡ ring.next
  pub oldest_is : memory.oldest_of in_memory ≡ oldest ring
  pub first_of : Remembers index plan table ring

-- .. and the first data page of each kept index page is remembered, or of each that was loaded so far
abbrev pub StandsForRing : BitmapIndex → FlashState → ℕ → Plan → Table → Type 0
StandsForRing index f first plan table = StandsWith RemembersAll index f first plan table

abbrev pub StandsBelow : ℕ → BitmapIndex → FlashState → ℕ → Plan → Table → Type 0
StandsBelow number index f first plan table = StandsWith (RemembersBelow number) index f first plan table

-- these entries wait in memory, those of the data pages from one on
pub record Waits (index : BitmapIndex) (first : ℕ) (entries : List IndexEntry) : Type 0 where
  pub first_is : first_waiting index ≡ first
  pub count_is : waiting_in index ≡ length entries
  pub gathered : Gathers index entries

-- the index stands for that of the table: its ring, and the waiting entries, which are those of the last data pages
pub record Stands (index : BitmapIndex) (f : FlashState) (first : ℕ) (plan : Plan) (table : Table) : Type 0 where
  pub in_ring : StandsForRing index f first plan table
  pub waits : Waits index (table.rows.next - length table.waiting) table.waiting
