-- How many buckets there can be.
use Rattle.std.specs.Prelude.{ℕ, Bool, ◌||◌, ◌==◌}

abbrev pub is_bits : ℕ → Bool
is_bits bits = (bits == 8) || (bits == 16) || (bits == 64)
