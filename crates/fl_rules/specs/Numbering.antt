-- The rules on the head, the states and the numbers of a ring, in this order.
use Rattle.std.specs.Prelude.{◌≡◌, ℕ, ◌+◌, ◌*◌, List}
use Rattle.fl_ring.specs.Ring.{Shape, room}
use Rattle.fl_rules.specs.Marks.{HasOneHead, AreMarks}
use Rattle.fl_rules.specs.Numbers.{HaveNumbers, NumbersBreak}
use Rattle.fl_rules.specs.States.{HaveStates, StatesBreak}
use Rattle.fl_rules.specs.declared.marks.Marks.{Marks}
use Rattle.fl_rules.specs.declared.rule.Rule.{Rule}
use Rattle.fl_rules.specs.declared.rule.Rule.TheVariants.{Head, State, Number, Body, Keys, Entry, Blob, Rest}

-- they hold: so many pages are kept, and this is the next number
pub record IsNumbered (page : ℕ → List ℕ) (r : Shape) (at_least : ℕ) (m : Marks) (next : ℕ) : Type 0 where
  pub marks : AreMarks page r m
  pub states : HaveStates page r m
  pub numbers : HaveNumbers page r m at_least next

pub record HasNumbering (page : ℕ → List ℕ) (r : Shape) (at_least : ℕ) : Type 0 where
  pub m : Marks
  pub next : ℕ
  pub is : IsNumbered page r at_least m next

-- the first that doesn't hold is that on the states
pub record BreaksStates (page : ℕ → List ℕ) (r : Shape) (p : ℕ) : Type 0 where
  pub m : Marks
  pub marks : AreMarks page r m
  pub breaks : StatesBreak page r m p

-- .. or that on the numbers
pub record BreaksNumbers (page : ℕ → List ℕ) (r : Shape) (at_least p : ℕ) : Type 0 where
  pub m : Marks
  pub marks : AreMarks page r m
  pub states : HaveStates page r m
  pub breaks : NumbersBreak page r m at_least p

-- the first of these rules that doesn't hold, and the page that breaks it first
abbrev pub BreaksFirst : (ℕ → List ℕ) → Shape → ℕ → Rule → ℕ → Type 0
BreaksFirst page r at_least Head p = (HasOneHead page r → ⊥) × (p ≡ r.first)
BreaksFirst page r at_least State p = BreaksStates page r p
BreaksFirst page r at_least Number p = BreaksNumbers page r at_least p
BreaksFirst page r at_least Body p = ⊥
BreaksFirst page r at_least Keys p = ⊥
BreaksFirst page r at_least Entry p = ⊥
BreaksFirst page r at_least Blob p = ⊥
BreaksFirst page r at_least Rest p = ⊥

-- how many pages are read at most
abbrev pub numbering_reads : Shape → ℕ
numbering_reads r = r.blocks + 2 * r.per_block + 1 + 3 * room r
