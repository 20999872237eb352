-- How a committed page ends.
use Rattle.std.specs.Prelude.{◌≡◌, ℕ, ◌-◌, List, ◌++◌, length, drop, replicate}

-- its commit field is four bytes 00, and its void field four bytes FF
abbrev pub IsEnded : List ℕ → Type 0
IsEnded page = drop (length page - 8) page ≡ replicate 4 0 ++ replicate 4 255

-- the bytes from a place on up to these fields are FF
abbrev pub IsFilled : ℕ → List ℕ → Type 0
IsFilled end page = drop end page ≡ replicate (length page - 8 - end) 255 ++ (replicate 4 0 ++ replicate 4 255)
