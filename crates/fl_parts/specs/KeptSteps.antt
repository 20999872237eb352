-- What the parts of a read of all kept pages ask for and leave.
use Rattle.std.specs.Prelude.{◌≡◌, ℕ, suc, ◌+◌, ◌-◌, ◌^◌, ◌<◌, ◌≤◌, true, IsTrue, Option, Some, None, List, length}
use Rattle.fl_find.specs.Index.{error_in}
use Rattle.fl_find.specs.Pages.{first_key, rows_on}
use Rattle.fl_find.specs.declared.index.KeyIndex.{KeyIndex}
use Rattle.fl_flash.specs.Buffer.{BufferState}
use Rattle.fl_flash.specs.Flash.{FlashState}
use Rattle.fl_frame.specs.Causes.{ReadFails}
use Rattle.fl_frame.specs.Reads.{OnlyReads}
use Rattle.fl_index.specs.Finding as finding
use Rattle.fl_index.specs.Memory.{first_in, is_running, next_in, oldest_in, place_in, IsSamePlan, IsSameRing, LiesOn as IndexLies}
use Rattle.fl_index.specs.Page.{first_on}
use Rattle.fl_index.specs.Standing.{StandsBelow}
use Rattle.fl_index.specs.declared.index.BitmapIndex.{BitmapIndex}
use Rattle.fl_model.specs.BlobEnds.{blobs_end}
use Rattle.fl_model.specs.Record.{Plan, RowLayout, layout_len}
use Rattle.fl_model.specs.Table.{Table, first_of}
use Rattle.fl_ring.specs.Place.{shape_of, next_of, oldest_of, LiesOn}
use Rattle.fl_ring.specs.Ring.{room}
use Rattle.fl_ring.specs.declared.ring.Ring.{Ring}
use Rattle.fl_parts.specs.Bitmaps.{AreIdle, AreSamePlan, AreSameRing, EndAt, StandForRing, first_to_wait}
use Rattle.fl_parts.specs.ByEntries.{Come, end_before, mount_fault, page_check, seen_before, unlisted_of}
use Rattle.fl_parts.specs.Coming.{AreListedBefore, AreLoaded, AreNext, AreRemembered, AreRowsOf, FirstsKnown, IsComeTo, IsFineListing, StandFound, WaitBetween}
use Rattle.fl_parts.specs.Faults.{IfFlash, IfPage, is_of_pages}
use Rattle.fl_parts.specs.Knowing.{IsWithin, KnowsWith, ReadsBut, is_waiting, left}
use Rattle.fl_parts.specs.Reading.{AreGathered, GatherUpTo, WaitFrom, bitmap_on, pages_of}
use Rattle.fl_parts.specs.declared.known.Known.{Known}
use Rattle.fl_parts.specs.declared.load.PageRows.{PageRows}
use Rattle.fl_parts.specs.declared.mount_fault.MountFault.{MountFault}

-- Rows have bytes and the ring lies on the flash, each page of the ring has its place among the counts, and the buffer has room for a
-- page and holds none.
pub record MayRead (layout : RowLayout) (ring : Ring) (f : FlashState) (counts : List ℕ) (buf : BufferState) : Type 0 where
  pub row : 1 ≤ layout_len layout
  pub lies : LiesOn ring f
  pub places : length counts ≡ room (shape_of ring)
  pub room : length buf.bytes ≡ f.geometry.page
  pub none : buf.holds ≡ None

-- However a part ends, there are as many counts, the index of pages has its greatest error, and the buffer has its size and holds no page.
pub record Keeps {KNOTS SLOTS : ℕ} (counts : List ℕ) (index : KeyIndex KNOTS SLOTS) (buf : BufferState) (counts_now : List ℕ) (index_now : KeyIndex KNOTS SLOTS) (buf_now : BufferState) : Type 0 where
  pub size : length counts_now ≡ length counts
  pub error : error_in index_now ≡ error_in index
  pub room : length buf_now.bytes ≡ length buf.bytes
  pub none : buf_now.holds ≡ None

-- a read failed, or a page is refused
pub record FailsReading (old : FlashState) (fault : MountFault) (new : FlashState) : Type 0 where
  pub only : is_of_pages fault ≡ true
  pub fails : IfFlash (λ e. ReadFails old e new) fault

-- ---- the data pages

-- what is counted has room for two pages more
pub record AreFew (known : Known) : Type 0 where
  pub rows : known.rows + 131072 < 2 ^ 64
  pub voids : known.voids + 1 < 2 ^ 32

-- the kept data pages below a number came
pub record HasCome (ring : Ring) (number : ℕ) (known : Known) : Type 0 where
  pub low : oldest_of ring ≤ number
  pub high : number ≤ next_of ring
  pub within : IsWithin (oldest_of ring) (number - oldest_of ring) known

-- .. and so many pages were read for them, when the page that waits is read too
pub record HasComeBy (ring : Ring) (number n : ℕ) (old : FlashState) (known known_now : Known) (new : FlashState) : Type 0 where
  pub come : HasCome ring number known_now
  pub spared : ReadsBut old (n + is_waiting known.newest) known_now new

-- one page more was counted
pub record CountsOne (known known_now : Known) : Type 0 where
  pub within : (oldest n : ℕ) → IsWithin oldest n known → IsWithin oldest (suc n) known_now
  pub waits : is_waiting known_now.newest ≤ is_waiting known.newest

-- what is known of the rows of a page with these bytes
pub record HasRows (layout : RowLayout) (bytes : List ℕ) (page : PageRows) : Type 0 where
  pub rows : page.rows ≡ length (rows_on layout bytes)
  pub few : page.rows < 65536
  pub first : page.first ≡ first_key (rows_on layout bytes)
  pub bitmap : page.bitmap ≡ bitmap_on bytes
  pub blob_end : page.blob_end ≡ blobs_end 0 (rows_on layout bytes)

-- The data pages that no index page lists were read, up to the next number, and their entries wait.
pub record NotesRest (layout : RowLayout) (ring : Ring) (bitmaps : Option BitmapIndex) (old : FlashState) (known : Known) (now : Option BitmapIndex) (known_now : Known) : Type 0 where
  pub come : HasCome ring (next_of ring) known_now
  pub newest : is_waiting known_now.newest ≤ is_waiting known.newest
  pub gathered : AreGathered bitmaps (next_of ring) now
  pub waits : IsTrue old.media.tells → GatherUpTo layout bitmaps (pages_of ring old) (next_of ring) now

-- .. and the ring of the index stays
pub record LeavesNoted (bitmaps : Option BitmapIndex) (old : FlashState) (n : ℕ) (now : Option BitmapIndex) (new : FlashState) : Type 0 where
  pub same : AreSamePlan bitmaps now
  pub still : AreSameRing bitmaps now
  pub reads : OnlyReads old n new

-- .. and then the page that waits: of those that no index page lists the entries of the last ones wait, from that of the page on that is
-- to wait first
pub record ReadsRest (layout : RowLayout) (ring : Ring) (end from : ℕ) (bitmaps : Option BitmapIndex) (old : FlashState) (now : Option BitmapIndex) (known_now : Known) : Type 0 where
  pub counted : known_now.newest ≡ None
  pub follow : EndAt now (next_of ring)
  pub many : WaitBetween (first_to_wait bitmaps end from (next_of ring)) (next_of ring) now
  pub waits : IsTrue old.media.tells → WaitFrom layout (pages_of ring old) (first_to_wait bitmaps end from (next_of ring)) (next_of ring) now

-- All data pages are counted, and the index stands for that of a table where it stood for it when it was found.
pub record FindsPages (bitmaps : Option BitmapIndex) (ring : Ring) (old : FlashState) (known : Known) (now : Option BitmapIndex) (new : FlashState) : Type 0 where
  pub counted : known.newest ≡ None
  pub follow : EndAt now (next_of ring)
  pub remembers : IsTrue old.media.tells → FirstsKnown bitmaps old now
  pub stands : (first : ℕ) → (plan : Plan) → (table : Table) → IsTrue old.media.tells → StandFound bitmaps old first plan table →
      StandForRing now new first plan table

-- ---- the index pages

-- The index is the one that was found, and lies on the flash, of which so many pages were read.
pub record LeavesIndex (index : BitmapIndex) (old : FlashState) (n : ℕ) (index_now : BitmapIndex) (new : FlashState) : Type 0 where
  pub same : IsSamePlan index index_now
  pub running : is_running index_now ≡ is_running index
  pub oldest : oldest_in index_now ≡ oldest_in index
  pub next : next_in index_now ≡ next_in index
  pub lies : IndexLies index_now new
  pub reads : OnlyReads old n new

-- An index page was taken: its first data page is remembered, and no other's is forgotten. No data page came by it.
pub record TakesPage (page : ℕ) (index : BitmapIndex) (old : FlashState) (known : Known) (index_now : BitmapIndex) (known_now : Known) (new : FlashState) : Type 0 where
  pub remembers : IsTrue old.media.tells → IsFineListing index old page → first_in index_now page ≡ first_on (finding.pages_of index old page)
  pub others : (n : ℕ) → (place_in index n ≡ place_in index page → ⊥) → first_in index_now n ≡ first_in index n
  pub stands : (first : ℕ) → (plan : Plan) → (table : Table) → IsTrue old.media.tells → StandsBelow page index old first plan table →
      StandsBelow (page + 1) index_now new first plan table
  pub within : (oldest n : ℕ) → IsWithin oldest n known → IsWithin oldest n known_now
  pub newest : is_waiting known_now.newest ≤ is_waiting known.newest

-- The entries of all index pages were loaded, one page after another: the first data page of each is remembered.
pub record LoadsPages (index : BitmapIndex) (old : FlashState) (index_now : BitmapIndex) (new : FlashState) : Type 0 where
  pub remembers : IsTrue old.media.tells → AreRemembered index old (oldest_in index) (next_in index) index_now
  pub stands : (first : ℕ) → (plan : Plan) → (table : Table) → IsTrue old.media.tells → StandsBelow (oldest_in index) index old first plan table →
      StandsBelow (next_in index) index_now new first plan table

-- .. where entries are full, and none is loaded any more
pub record LoadsFull (bitmaps : Option BitmapIndex) (old : FlashState) (now : Option BitmapIndex) (new : FlashState) : Type 0 where
  pub idle : AreIdle now
  pub remembers : IsTrue old.media.tells → FirstsKnown bitmaps old now
  pub stands : (first : ℕ) → (plan : Plan) → (table : Table) → IsTrue old.media.tells → StandFound bitmaps old first plan table →
      StandForRing now new first plan table

-- the ring of the index stays, and what is remembered of it
pub record LeavesRing (index index_now : BitmapIndex) : Type 0 where
  pub same : IsSamePlan index index_now
  pub still : IsSameRing index index_now

-- .. and what is known of the data pages is as much
pub record KeepsKnown (known known_now : Known) : Type 0 where
  pub within : (oldest n : ℕ) → IsWithin oldest n known → IsWithin oldest n known_now
  pub waits : is_waiting known_now.newest ≤ is_waiting known.newest

-- ---- what is asked of a mount that comes to these pages

-- when k index pages were read and n data pages were checked, the n-th one, which has this number, is checked next
pub record IsNextPage (t : Come) (k n number : ℕ) (counts : List ℕ) : Type 0 where
  pub lt : n < t.pages
  pub fits : t.pages ≤ length counts
  pub at : number ≡ t.oldest + n
  pub next : left t k n ≡ first_of (page_check t n) (left t k (suc n))

-- the data pages from one number on below another are checked next, and the entries that are loaded are theirs
pub record AreNextPages (t : Come) (k from to : ℕ) (layout : RowLayout) (ring : Ring) (f : FlashState) (index : BitmapIndex) (counts : List ℕ) : Type 0 where
  pub told : IsTrue f.media.tells
  pub rows : AreRowsOf t layout ring f
  pub fits : t.pages ≤ length counts
  pub loaded : AreLoaded t from to index
  pub next : AreNext t k from to

-- the k-th index page is checked next, when the data pages came that those before it say to list
pub record IsNextIndexPage (t : Come) (k n page end : ℕ) (layout : RowLayout) (most : ℕ) (ring : Ring) (f : FlashState) (index : BitmapIndex) (counts : List ℕ) : Type 0 where
  pub is : IsComeTo t layout most index ring f
  pub at : page ≡ t.index_oldest + k
  pub lt : k < t.index_pages
  pub end_is : end ≡ end_before t k
  pub seen : n ≡ seen_before t k
  pub within : n ≤ t.pages
  pub fits : t.pages ≤ length counts

-- ---- what is known then

-- .. and it was taken, so that its entries are loaded
pub record KnowsTaken {KNOTS SLOTS : ℕ} (error : ℕ) (t : Come) (k n end after : ℕ) (known : Known) (counts : List ℕ) (index : KeyIndex KNOTS SLOTS) (bitmaps : BitmapIndex) : Type 0 where
  pub end_is : after ≡ end_before t (suc k)
  pub knows : KnowsWith error t (suc k) n known counts index
  pub loaded : AreLoaded t end after bitmaps

-- All index pages were read, and the data pages below a number came: no index page lists one from there on.
pub record KnowsListed {KNOTS SLOTS : ℕ} (error : ℕ) (t : Come) (number before reads : ℕ) (known : Known) (counts : List ℕ) (index : KeyIndex KNOTS SLOTS) : Type 0 where
  pub knows : KnowsWith error t t.index_pages (number - t.oldest) known counts index
  pub listed : AreListedBefore t number
  pub few : reads ≤ before + t.index_pages + unlisted_of t t.oldest (number - t.oldest)

-- a page is refused, and it is the first
pub record IsRefusedFirst (t : Come) (before reads : ℕ) (fault : MountFault) : Type 0 where
  pub refused : IfPage (λ e. mount_fault t ≡ Some e) fault
  pub few : reads ≤ before + t.index_pages + unlisted_of t t.oldest t.pages
