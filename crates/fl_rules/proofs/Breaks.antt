-- How the rule on the states of a ring's pages breaks.
use Rattle.std.proofs.Common.{◌≡◌, ℕ, List, ◌+◌, true, Option, Some, IfSome, inr, subst}
use Rattle.fl_ring.specs.Head.{page_in}
use Rattle.fl_ring.specs.Ring.{Shape}
use Rattle.fl_rules.specs.Claims.{AllBelow}
use Rattle.fl_rules.specs.States.{IsSealed, IsWritten, AreBlank, IsLast, StatesBreak}
use Rattle.fl_rules.specs.declared.marks.Marks.{Marks}

pub written_some : (page : ℕ → List ℕ) (r : Shape) (at from to to' j : ℕ) (o : Option ℕ) → o ≡ Some j → to ≡ to' → IfSome o (IsWritten page r at from to) → IsWritten page r at from to' j
written_some page r at from to to' j o e same is =
    subst (λ (n : ℕ). IsWritten page r at from n j) same (subst (λ (x : Option ℕ). IfSome x (IsWritten page r at from to)) e is)

pub not_blank : (page : ℕ → List ℕ) (r : Shape) (at from to j : ℕ) → IsWritten page r at from to j → AreBlank page r at from to → ⊥
not_blank page r at from to j is all = is.here (all j is.low is.high)

pub begun_for : (page : ℕ → List ℕ) (r : Shape) (m : Marks) (p : ℕ) → AllBelow (IsSealed page r m) m.kept → m.pages.ordered ≡ r.per_block → IsLast r m → m.pages.front.torn ≡ true
    → (j : ℕ) → IsWritten page r m.at 1 (r.per_block + 1) j → p ≡ page_in r m.head m.pages.front.sealed → StatesBreak page r m p
begun_for page r m p kept ordered last torn j is at = inr (inr (record {
  kept = kept;
  ordered = ordered;
  last = last;
  torn = torn;
  ahead = not_blank page r m.at 1 (r.per_block + 1) j is;
  is = at;
}))
