-- Claims of each of some numbers, and the first number of which one doesn't hold.
use Rattle.std.specs.Prelude.{ℕ, ◌<◌}

abbrev pub AllBelow : (ℕ → Type 0) → ℕ → Type 0
AllBelow Holds n = (i : ℕ) → i < n → Holds i

-- i is the first of the numbers below n of which it doesn't hold
pub record FailsFirst (Holds : ℕ → Type 0) (n i : ℕ) : Type 0 where
  pub within : i < n
  pub before : AllBelow Holds i
  pub here : Holds i → ⊥
