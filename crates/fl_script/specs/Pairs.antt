-- The bytes that pairs of digits' values are.
use Rattle.std.specs.Prelude.{ℕ, ◌+◌, ◌*◌, ◌%◌, List, [], ◌∷◌}

abbrev pub pairs_of : List ℕ → List ℕ
pairs_of (high ∷ low ∷ values) = (high * 16 % 256 + low) % 256 ∷ pairs_of values
pairs_of (value ∷ []) = []
pairs_of [] = []
