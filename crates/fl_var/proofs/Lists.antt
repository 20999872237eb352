-- Fronts and ends of lists.
use Rattle.std.proofs.Common.{◌≡◌, ℕ, ◌+◌, ◌≤◌, inl, inr, arith}
use Rattle.std.proofs.lemmas.Bool.{cases_lt}

-- a place that isn't the end stands before it
pub before-end : (n end : ℕ) → n ≤ end → (n ≡ end → ⊥) → n + 1 ≤ end
before-end n end le other = elim (cases_lt n end) [
  | inl lt ↦ omega (arith, lt)
  | inr ge ↦ absurd (other (omega (arith, le, ge)))
]
