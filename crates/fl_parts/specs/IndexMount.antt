-- What the mount of a table's index found, over any bytes, and what the mount of a part reads and repairs at most.
use Rattle.std.specs.Prelude.{◌≡◌, ℕ, ◌+◌, ◌<◌, ◌≤◌, Bool, true, false, Option, Some, None}
use Rattle.fl_flash.specs.Flash.{FlashState}
use Rattle.fl_ring.specs.declared.fault.RingFault.{RingFault}
use Rattle.fl_index.specs.Memory as memory
use Rattle.fl_index.specs.Finding as finding
use Rattle.fl_index.specs.Finding.{FindsEnd, FindsIndex, RefusesEnd, RefusesIndex}
use Rattle.fl_index.specs.Page.{first_on}
use Rattle.fl_index.specs.declared.index.BitmapIndex.{BitmapIndex}

-- at most one page of each ring is given up, and one block erased
pub record FewRepairs (rings : ℕ) (old new : FlashState) : Type 0 where
  pub programs : new.work.programs ≤ old.work.programs + rings
  pub erases : new.work.erases ≤ old.work.erases + rings

-- The index was found and repaired, where the table has one; it is this one now, and ends at this number. Where entries are full,
-- its kept pages are read later.
abbrev pub FindsBy : Bool → BitmapIndex → FlashState → Option ℕ → BitmapIndex → FlashState → Type 0
FindsBy true index old end now new = FindsEnd index old end now new
FindsBy false index old end now new = FindsIndex index old end now new

abbrev pub FindsBitmaps : Option BitmapIndex → FlashState → Option ℕ → Option BitmapIndex → FlashState → Type 0
FindsBitmaps None old end None new = (end ≡ None) × (new ≡ old)
FindsBitmaps None old end (Some now) new = ⊥
FindsBitmaps (Some index) old end None new = ⊥
FindsBitmaps (Some index) old end (Some now) new = FindsBy (memory.form_in index).full index old end now new

-- why it is refused, and what was done
abbrev pub RefusesBy : Bool → BitmapIndex → FlashState → RingFault → FlashState → Type 0
RefusesBy true index old fault new = RefusesEnd index old fault new
RefusesBy false index old fault new = RefusesIndex index old fault new

abbrev pub RefusesBitmaps : Option BitmapIndex → FlashState → RingFault → FlashState → Type 0
RefusesBitmaps None old fault new = ⊥
RefusesBitmaps (Some index) old fault new = RefusesBy (memory.form_in index).full index old fault new

-- Where entries are full, the first data page of each kept index page is remembered.
abbrev pub RemembersPages : Bool → BitmapIndex → FlashState → BitmapIndex → Type 0
RemembersPages true index f now =
    (number : ℕ) → memory.oldest_in index ≤ number → number < memory.next_in index → memory.first_in now number ≡ first_on (finding.pages_of index f number)
RemembersPages false index f now = Unit {0}

abbrev pub RemembersKept : Option BitmapIndex → FlashState → Option BitmapIndex → Type 0
RemembersKept None f now = Unit {0}
RemembersKept (Some index) f None = ⊥
RemembersKept (Some index) f (Some now) = RemembersPages (memory.form_in index).full index f now
