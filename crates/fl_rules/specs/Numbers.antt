-- The rule on the numbers of a ring's pages: they are told by the newest committed page, and the others follow from it.
use Rattle.std.specs.Prelude.{◌≡◌, ◌⊎◌, ℕ, ◌+◌, ◌-◌, ◌^◌, ◌%◌, ◌<◌, ◌≤◌, true, Option, Some, None, MatchOption, List}
use Rattle.fl_mark.specs.Mark.{state_of_page}
use Rattle.fl_ring.specs.declared.newest.Newest.{Newest}
use Rattle.fl_ring.specs.Head.{one}
use Rattle.fl_ring.specs.Newest.{commits, back_from, page_back, number_of, NoneBefore, IsNewest}
use Rattle.fl_ring.specs.Numbers.{next_by}
use Rattle.fl_ring.specs.Ring.{Shape, room}
use Rattle.fl_rules.specs.Claims.{AllBelow, FailsFirst}
use Rattle.fl_rules.specs.Marks.{kept_page}
use Rattle.fl_rules.specs.declared.marks.Marks.{Marks}

-- the newest committed page among the kept ones, or none
abbrev pub NewestOf : (ℕ → List ℕ) → Shape → Marks → Option Newest → Type 0
NewestOf page r m newest = MatchOption newest (NoneBefore page r m.at (m.kept + 1)) (IsNewest page r m.at m.kept)

-- the next number, by that page, or by the least number where there is none
abbrev pub next_of : Shape → Marks → ℕ → Option Newest → ℕ
next_of r m at_least newest = next_by r m.at m.kept at_least newest

-- its number fits its place
abbrev pub FitsPlace : Shape → Marks → Option Newest → Type 0
FitsPlace r m None = Unit {0}
FitsPlace r m (Some newest) = newest.number % room r ≡ back_from r m.at newest.back

-- the number of the i-th kept page, counted back from the next one, isn't below 0, and is its own where it is committed
pub record HasItsNumber (page : ℕ → List ℕ) (r : Shape) (m : Marks) (next i : ℕ) : Type 0 where
  pub not_negative : m.kept - i ≤ next
  pub own : commits (state_of_page (page (kept_page r m i))) ≡ true → number_of (page (kept_page r m i)) + (m.kept - i) ≡ next

-- the next number can be had, and with one page more where the page there was begun
abbrev pub IsLeft : Marks → ℕ → Type 0
IsLeft m next = next + one m.pages.front.torn < 2 ^ 32

pub record HaveNumbers (page : ℕ → List ℕ) (r : Shape) (m : Marks) (at_least next : ℕ) : Type 0 where
  pub newest : Option Newest
  pub newest_is : NewestOf page r m newest
  pub fits : FitsPlace r m newest
  pub next_is : next ≡ next_of r m at_least newest
  pub each : AllBelow (HasItsNumber page r m next) m.kept
  pub left : IsLeft m next

-- the newest committed page, whose number doesn't fit its place
pub record IsMisplaced (page : ℕ → List ℕ) (r : Shape) (m : Marks) (p : ℕ) : Type 0 where
  pub newest : Newest
  pub newest_is : NewestOf page r m (Some newest)
  pub unfit : FitsPlace r m (Some newest) → ⊥
  pub is : p ≡ page_back r m.at newest.back

-- the oldest kept page whose number is below 0 or not its own
pub record IsMisnumbered (page : ℕ → List ℕ) (r : Shape) (m : Marks) (at_least p : ℕ) : Type 0 where
  pub newest : Option Newest
  pub newest_is : NewestOf page r m newest
  pub fits : FitsPlace r m newest
  pub i : ℕ
  pub first : FailsFirst (HasItsNumber page r m (next_of r m at_least newest)) m.kept i
  pub is : p ≡ kept_page r m i

-- the ring's first page, where no number is left
pub record IsSpent (page : ℕ → List ℕ) (r : Shape) (m : Marks) (at_least p : ℕ) : Type 0 where
  pub newest : Option Newest
  pub newest_is : NewestOf page r m newest
  pub fits : FitsPlace r m newest
  pub each : AllBelow (HasItsNumber page r m (next_of r m at_least newest)) m.kept
  pub none : IsLeft m (next_of r m at_least newest) → ⊥
  pub is : p ≡ r.first

-- the first page that breaks the rule
abbrev pub NumbersBreak : (ℕ → List ℕ) → Shape → Marks → ℕ → ℕ → Type 0
NumbersBreak page r m at_least p = IsMisplaced page r m p ⊎ (IsMisnumbered page r m at_least p ⊎ IsSpent page r m at_least p)
