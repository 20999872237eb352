-- The pseudo-random sequence.
use Rattle.std.specs.Prelude.{ℕ, ◌+◌, ◌*◌, ◌%◌, ◌^◌}

-- the generator's next number
abbrev pub next_random : ℕ → ℕ
next_random s = (s * 6364136223846793005 + 1442695040888963407) % 2 ^ 64
