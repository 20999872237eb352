-- The rule on the states of a ring's pages: the kept ones are sealed, the head is in order, and where the next page is
-- the last of its block and was begun, the block ahead is blank.
use Rattle.std.specs.Prelude.{◌≡◌, ◌⊎◌, ℕ, ◌+◌, ◌%◌, ◌<◌, ◌≤◌, true, List}
use Rattle.fl_mark.specs.Mark.{state_of_page}
use Rattle.fl_ring.specs.Front.{blanks}
use Rattle.fl_ring.specs.Head.{page_in, seals}
use Rattle.fl_ring.specs.Ring.{Shape, room}
use Rattle.fl_rules.specs.Claims.{AllBelow, FailsFirst}
use Rattle.fl_rules.specs.Marks.{kept_page}
use Rattle.fl_rules.specs.declared.marks.Marks.{Marks}

-- the i-th kept page is committed or void
abbrev pub IsSealed : (ℕ → List ℕ) → Shape → Marks → ℕ → Type 0
IsSealed page r m i = seals (state_of_page (page (kept_page r m i))) ≡ true

-- the flash page of the j-th page after a place
abbrev pub page_after : Shape → ℕ → ℕ → ℕ
page_after r at j = r.first + (at + j) % room r

abbrev pub IsBlankAfter : (ℕ → List ℕ) → Shape → ℕ → ℕ → Type 0
IsBlankAfter page r at j = blanks (state_of_page (page (page_after r at j))) ≡ true

-- the pages from the `from`-th up to the one before the `to`-th after a place are blank
abbrev pub AreBlank : (ℕ → List ℕ) → Shape → ℕ → ℕ → ℕ → Type 0
AreBlank page r at from to = (j : ℕ) → from ≤ j → j < to → IsBlankAfter page r at j

-- the j-th is the first of them that isn't
pub record IsWritten (page : ℕ → List ℕ) (r : Shape) (at from to j : ℕ) : Type 0 where
  pub low : from ≤ j
  pub high : j < to
  pub before : AreBlank page r at from j
  pub here : IsBlankAfter page r at j → ⊥

-- the next page is the last of its block, so that the block ahead comes next
abbrev pub IsLast : Shape → Marks → Type 0
IsLast r m = m.pages.front.sealed + 1 ≡ r.per_block

abbrev pub IsAheadBlank : (ℕ → List ℕ) → Shape → Marks → Type 0
IsAheadBlank page r m = AreBlank page r m.at 1 (r.per_block + 1)

pub record HaveStates (page : ℕ → List ℕ) (r : Shape) (m : Marks) : Type 0 where
  pub kept : AllBelow (IsSealed page r m) m.kept
  pub ordered : m.pages.ordered ≡ r.per_block
  pub ahead : IsLast r m → m.pages.front.torn ≡ true → IsAheadBlank page r m

-- the oldest kept page that isn't sealed
pub record IsUnsealed (page : ℕ → List ℕ) (r : Shape) (m : Marks) (p : ℕ) : Type 0 where
  pub i : ℕ
  pub first : FailsFirst (IsSealed page r m) m.kept i
  pub is : p ≡ kept_page r m i

-- the first page of the head that isn't blank though it should be
pub record IsGap (page : ℕ → List ℕ) (r : Shape) (m : Marks) (p : ℕ) : Type 0 where
  pub kept : AllBelow (IsSealed page r m) m.kept
  pub some : m.pages.ordered < r.per_block
  pub is : p ≡ page_in r m.head m.pages.ordered

-- the next page, which was begun though the block ahead isn't blank
pub record IsBegun (page : ℕ → List ℕ) (r : Shape) (m : Marks) (p : ℕ) : Type 0 where
  pub kept : AllBelow (IsSealed page r m) m.kept
  pub ordered : m.pages.ordered ≡ r.per_block
  pub last : IsLast r m
  pub torn : m.pages.front.torn ≡ true
  pub ahead : IsAheadBlank page r m → ⊥
  pub is : p ≡ page_in r m.head m.pages.front.sealed

-- the first page that breaks the rule
abbrev pub StatesBreak : (ℕ → List ℕ) → Shape → Marks → ℕ → Type 0
StatesBreak page r m p = IsUnsealed page r m p ⊎ (IsGap page r m p ⊎ IsBegun page r m p)
