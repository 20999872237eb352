-- How the number of binary digits grows with a number.
use Rattle.std.specs.Prelude.{ℕ, ◌+◌, ◌*◌, ◌^◌, ◌<◌, ◌≤◌}
use Rattle.fl_base.specs.Bits.{bits}

-- They reach up to the number, and one fewer don't.
pub record HasBits (n : ℕ) : Type 0 where
  pub below : n < 2 ^ bits n
  pub above : 2 ^ bits n ≤ 2 * n + 1

-- of each number that a u64 holds
pub record BitsGrow : Type 0 where
  pub has : (n : ℕ) → n < 2 ^ 64 → HasBits n
  pub ascends : (m n : ℕ) → m ≤ n → n < 2 ^ 64 → bits m ≤ bits n
  pub halves : (m n : ℕ) → 2 * m ≤ n → 0 < n → n < 2 ^ 64 → bits m + 1 ≤ bits n
  pub doubles : (m n : ℕ) → n ≤ 2 * m + 1 → m < 2 ^ 64 → n < 2 ^ 64 → bits n ≤ bits m + 1
