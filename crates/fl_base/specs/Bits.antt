-- The binary digits of a number.
use Rattle.std.specs.Prelude.{ℕ, ◌-◌}
use Rattle.std.specs.Int.{leading_zeros, w64}

-- how many there are
abbrev pub bits : ℕ → ℕ
bits n = 64 - leading_zeros w64 n
