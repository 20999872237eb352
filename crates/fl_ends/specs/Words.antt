-- The word that names an image.
use Rattle.std.specs.Prelude.{ℕ, Bool, false, not, ◌==◌, List, [], ◌∷◌}

-- a name isn't empty and doesn't begin with a dash
abbrev pub is_image_name : List ℕ → Bool
is_image_name [] = false
is_image_name (byte ∷ bytes) = not (byte == 45)
