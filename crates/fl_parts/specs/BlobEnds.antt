-- Where a ring begins whose pages tell no number.
use Rattle.std.specs.Prelude.{ℕ, ◌-◌, ◌^◌, min}

-- the number from which those of a ring begin whose pages tell none
abbrev pub least_of : ℕ → ℕ
least_of end = min end (2 ^ 32 - 1)
