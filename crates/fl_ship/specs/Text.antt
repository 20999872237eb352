-- The line that a ship writes.
use Rattle.std.specs.Prelude.{ℕ, List, [], ◌∷◌, ◌++◌, codes, decimal}

-- how many records were shipped
abbrev pub shipped_text : ℕ → List ℕ
shipped_text count = codes "shipped " ++ (decimal count ++ 10 ∷ [])
