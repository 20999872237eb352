-- What a mount of an index found on a flash, over any bytes.
use Rattle.std.specs.Prelude.{◌≡◌, ◌⊎◌, ℕ, ◌+◌, ◌-◌, ◌^◌, ◌<◌, ◌≤◌, Option, Some, None, List}
use Rattle.fl_flash.specs.Flash.{FlashState, page_at}
use Rattle.fl_flash.specs.declared.flash.FlashFault.{FlashFault}
use Rattle.fl_ring.specs.declared.fault.RingFault.{RingFault}
use Rattle.fl_ring.specs.declared.fault.RingFault.TheVariants.{Flash, BadHead, BadGap, BadPage, NoNumber}
use Rattle.fl_ring.specs.declared.ring.Ring.{Ring}
use Rattle.fl_ring.specs.Finding.{FoundFault}
use Rattle.fl_frame.specs.Reads.{OnlyReads}
use Rattle.fl_frame.specs.Causes.{ReadFails}
use Rattle.fl_ring.specs.Mounting.{search_reads, HasNumbers, FailsAs}
use Rattle.fl_ring.specs.Place.{next_of, oldest_of}
use Rattle.fl_index.specs.declared.index.BitmapIndex.{BitmapIndex}
use Rattle.fl_index.specs.Memory.{ring_shape, place_in, per_page, first_in}
use Rattle.fl_index.specs.Page.{page_first, page_entries, first_on, newest_of}

-- at most one page is given up, and one block erased
pub record FewRepairs (old new : FlashState) : Type 0 where
  pub programs : new.work.programs ≤ old.work.programs + 1
  pub erases : new.work.erases ≤ old.work.erases + 1

-- the bytes of an index page, by its number
abbrev pub pages_of : BitmapIndex → FlashState → ℕ → List ℕ
pages_of index f number = page_at f (place_in index number)

-- The ring was found and repaired, and then each of its kept pages was read.
pub record ReadsRing (index : BitmapIndex) (old : FlashState) (ring : Ring) (new : FlashState) : Type 0 where
  pub repaired : FlashState
  pub numbers : HasNumbers old (ring_shape index) 0 ring repaired
  pub reads : OnlyReads repaired (next_of ring - oldest_of ring) new

-- the newest committed one of the kept pages
abbrev pub newest_in : BitmapIndex → Ring → FlashState → Option ℕ
newest_in index ring f = newest_of (pages_of index f) (oldest_of ring) (next_of ring - oldest_of ring)

-- it holds as many bitmaps as an index page has to, and they end at a number of four bytes
pub record HasEnd (per_page : ℕ) (page : List ℕ) : Type 0 where
  pub full : page_entries page ≡ per_page
  pub fits : page_first page + per_page < 2 ^ 32

-- the index ends after the data pages that its newest committed page lists, and nowhere where it has none
abbrev pub IsEnd : ℕ → (ℕ → List ℕ) → Option ℕ → Option ℕ → Type 0
IsEnd per_page page None end = end ≡ None
IsEnd per_page page (Some number) end = HasEnd per_page (page number) × (end ≡ Some (page_first (page number) + per_page))

-- a mount that ended well: the first data page of each kept page is remembered
pub record FindsIndex (index : BitmapIndex) (old : FlashState) (end : Option ℕ) (now : BitmapIndex) (new : FlashState) : Type 0 where
  pub ring : Ring
  pub ring_is : now.ring ≡ Some ring
  pub ring_reads : ReadsRing index old ring new
  pub firsts : (number : ℕ) → oldest_of ring ≤ number → number < next_of ring → first_in now number ≡ first_on (pages_of index new number)
  pub end_is : IsEnd (per_page index) (pages_of index new) (newest_in index ring new) end

-- the ring was found and repaired, and then a read of a kept page failed
pub record PagesUnread (index : BitmapIndex) (old : FlashState) (fault : FlashFault) (new : FlashState) : Type 0 where
  pub ring : Ring
  pub ring_reads : ReadsRing index old ring new
  pub fails : ReadFails ring_reads.repaired fault new

-- a ring that is refused is left as it is
pub record HasBadRing (index : BitmapIndex) (old : FlashState) (fault : RingFault) (new : FlashState) : Type 0 where
  pub found : FoundFault old (ring_shape index) 0 fault
  pub reads : OnlyReads old (search_reads (ring_shape index)) new

-- the newest committed page of a ring that was found and repaired can't be the index's: no page was read after that
pub record HasBadEnd (index : BitmapIndex) (old : FlashState) (fault : RingFault) (new : FlashState) : Type 0 where
  pub ring : Ring
  pub numbers : HasNumbers old (ring_shape index) 0 ring new
  pub number : ℕ
  pub newest : newest_in index ring new ≡ Some number
  pub unfit : HasEnd (per_page index) (pages_of index new number) → ⊥
  pub fault_is : fault ≡ BadPage (place_in index number) (per_page index) (page_entries (pages_of index new number))

-- why a mount fails, and what it has done
abbrev pub RefusesIndex : BitmapIndex → FlashState → RingFault → FlashState → Type 0
RefusesIndex index old (Flash fault) new = FailsAs old (ring_shape index) 0 (Flash fault) new ⊎ PagesUnread index old fault new
RefusesIndex index old (BadHead heads) new = HasBadRing index old (BadHead heads) new
RefusesIndex index old (BadGap page) new = HasBadRing index old (BadGap page) new
RefusesIndex index old (BadPage page wanted found) new =
    HasBadRing index old (BadPage page wanted found) new ⊎ HasBadEnd index old (BadPage page wanted found) new
RefusesIndex index old (NoNumber at_least) new = HasBadRing index old (NoNumber at_least) new

-- the first part of a mount: the ring was found and repaired, and its pages were read by that alone
pub record FindsEnd (index : BitmapIndex) (old : FlashState) (end : Option ℕ) (now : BitmapIndex) (new : FlashState) : Type 0 where
  pub ring : Ring
  pub ring_is : now.ring ≡ Some ring
  pub numbers : HasNumbers old (ring_shape index) 0 ring new
  pub end_is : IsEnd (per_page index) (pages_of index new) (newest_in index ring new) end

-- why it fails: it reads no page after the repairs
abbrev pub RefusesEnd : BitmapIndex → FlashState → RingFault → FlashState → Type 0
RefusesEnd index old (Flash fault) new = FailsAs old (ring_shape index) 0 (Flash fault) new
RefusesEnd index old (BadHead heads) new = RefusesIndex index old (BadHead heads) new
RefusesEnd index old (BadGap page) new = RefusesIndex index old (BadGap page) new
RefusesEnd index old (BadPage page wanted found) new = RefusesIndex index old (BadPage page wanted found) new
RefusesEnd index old (NoNumber at_least) new = RefusesIndex index old (NoNumber at_least) new
