-- Calls that look at pages of a ring, and why they fail.
use Rattle.std.specs.Prelude.{◌≡◌, ℕ, ◌+◌, ◌≤◌, ◌<◌, false, Option, List, IsTrue}
use Rattle.fl_flash.specs.Buffer.{BufferState}
use Rattle.fl_flash.specs.Flash.{FlashState}
use Rattle.fl_flash.specs.declared.flash.FlashFault.TheVariants.{PowerLost, Media}
use Rattle.fl_model.specs.Record.{RowLayout}
use Rattle.fl_frame.specs.Contents.{OnlyReads}
use Rattle.fl_page.specs.declared.fault.BadPage.{BadPage}
use Rattle.fl_page.specs.declared.fault.ReadFault.{ReadFault}
use Rattle.fl_page.specs.declared.fault.ReadFault.TheVariants as fault
use Rattle.fl_frame.specs.Causes.{ReadFails}
use Rattle.fl_ring.specs.Place.{shape_of, next_of, oldest_of}
use Rattle.fl_ring.specs.declared.ring.Ring.{Ring}
use Rattle.fl_search.specs.Search.{RoseSome, starts_by}
use Rattle.fl_find.specs.Pages.{bytes_at, first_on, IsBadPage, IsFresh}

-- pages were read, and the power is as it was
pub record OnlyLooks (old new : FlashState) : Type 0 where
  pub reads : OnlyReads old new
  pub power : new.is_on ≡ old.is_on
  pub cuts : new.cuts ≡ old.cuts

-- a page that is kept
pub record IsKept (ring : Ring) (number : ℕ) : Type 0 where
  pub from : oldest_of ring ≤ number
  pub before : number < next_of ring

-- a kept page is bad
pub record HasBadPage (layout : RowLayout) (ring : Ring) (f : FlashState) (bad : BadPage) : Type 0 where
  pub number : ℕ
  pub kept : IsKept ring number
  pub is_bad : IsBadPage layout number (bytes_at (shape_of ring) f number) bad

-- why a look fails: the power was off and there are pages; or in a read the medium failed; or a page that was read is
-- bad, which is told where the flash tells its bytes
abbrev pub LookFails : RowLayout → Ring → FlashState → ReadFault → FlashState → Type 0
LookFails layout ring old (fault.Flash PowerLost) new = ReadFails old PowerLost new × (oldest_of ring < next_of ring)
LookFails layout ring old (fault.Flash Media) new = ReadFails old Media new × RoseSome old.work.reads new.work.reads
LookFails layout ring old (fault.BadPage bad) new = (IsTrue old.media.tells → HasBadPage layout ring old bad) × RoseSome old.work.reads new.work.reads

-- the page that was looked at is the one that is blamed
abbrev pub BlamesThis : RowLayout → Ring → FlashState → ℕ → ReadFault → Type 0
BlamesThis layout ring f number (fault.Flash e) = Unit {0}
BlamesThis layout ring f number (fault.BadPage bad) = IsTrue f.media.tells → IsBadPage layout number (bytes_at (shape_of ring) f number) bad

-- a page that isn't bad
abbrev pub IsSound : RowLayout → ℕ → List ℕ → Type 0
IsSound layout number page = (bad : BadPage) → IsBadPage layout number page bad → ⊥

-- no page of a ring from one number to before another is bad
abbrev pub NoneIsBad : RowLayout → Ring → FlashState → ℕ → ℕ → Type 0
NoneIsBad layout ring f from end = (n : ℕ) → from ≤ n → n < end → IsSound layout n (bytes_at (shape_of ring) f n)

-- the newest bad one of the pages that are kept before an end, behind which none begins with at most a key
pub record IsBadBelow (layout : RowLayout) (ring : Ring) (f : FlashState) (end key : ℕ) (bad : BadPage) : Type 0 where
  pub number : ℕ
  pub within : (oldest_of ring ≤ number) × (number < end)
  pub is_bad : IsBadPage layout number (bytes_at (shape_of ring) f number) bad
  pub later : (n : ℕ) → number < n → n < end → starts_by (first_on layout (shape_of ring) f) key n ≡ false
  pub sound : NoneIsBad layout ring f (number + 1) end

-- a look downwards from an end blames that page
abbrev pub BlamesBelow : RowLayout → Ring → FlashState → ℕ → ℕ → ReadFault → Type 0
BlamesBelow layout ring f end key (fault.Flash e) = Unit {0}
BlamesBelow layout ring f end key (fault.BadPage bad) = IsTrue f.media.tells → IsBadBelow layout ring f end key bad

-- a function that tells the first keys of the kept pages, and anything of a bad one
pub record Tells (layout : RowLayout) (ring : Ring) (f : FlashState) (first : ℕ → Option ℕ) : Type 0 where
  pub told : IsTrue f.media.tells
  pub each : (n : ℕ) → IsKept ring n → IsSound layout n (bytes_at (shape_of ring) f n) → first n ≡ first_on layout (shape_of ring) f n

-- the same pages were looked at since
pub record Since (ring : Ring) (layout : RowLayout) (f : FlashState) (buf : BufferState) (ring_now : Ring) (layout_now : RowLayout) (now : FlashState) (buf_now : BufferState) : Type 0 where
  pub ring_is : ring_now ≡ ring
  pub layout_is : layout_now ≡ layout
  pub looks : OnlyLooks f now
  pub fresh : IsFresh f buf → IsFresh now buf_now
