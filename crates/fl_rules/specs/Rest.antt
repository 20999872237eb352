-- The rule on a ring's other pages: what is neither kept nor in the head is blank, but for a block ahead that may wait
-- for its erase.
use Rattle.std.specs.Prelude.{◌≡◌, ◌⊎◌, ℕ, ◌+◌, ◌-◌, ◌*◌, List}
use Rattle.fl_ring.specs.Ring.{Shape, room}
use Rattle.fl_rules.specs.States.{page_after, AreBlank, IsWritten, IsLast}
use Rattle.fl_rules.specs.declared.marks.Marks.{Marks}

-- all blocks but two are kept, and all pages of the head but the last: the block ahead may wait for its erase
abbrev pub MayWait : Shape → Marks → Type 0
MayWait r m = IsLast r m × (m.kept + 1 ≡ (r.blocks - 1) * r.per_block)

-- the pages after the head, up to the oldest kept one, by their places after the next page
abbrev pub rest_from : Shape → Marks → ℕ
rest_from r m = r.per_block - m.pages.front.sealed

abbrev pub rest_to : Shape → Marks → ℕ
rest_to r m = room r - m.kept

abbrev pub IsRestBlank : (ℕ → List ℕ) → Shape → Marks → Type 0
IsRestBlank page r m = MayWait r m ⊎ AreBlank page r m.at (rest_from r m) (rest_to r m)

-- the first of them that isn't blank
pub record RestBreaks (page : ℕ → List ℕ) (r : Shape) (m : Marks) (p : ℕ) : Type 0 where
  pub must : MayWait r m → ⊥
  pub j : ℕ
  pub first : IsWritten page r m.at (rest_from r m) (rest_to r m) j
  pub is : p ≡ page_after r m.at j
