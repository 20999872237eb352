-- The parts of a text.
use Rattle.std.specs.Prelude.{ℕ, ◌==◌, List}
use Rattle.std.specs.List.{slice_split}

-- between its newlines
abbrev pub line_parts : List ℕ → List (List ℕ)
line_parts text = slice_split (λ byte. byte == 10) text

-- .. and between its commas
abbrev pub comma_parts : List ℕ → List (List ℕ)
comma_parts text = slice_split (λ byte. byte == 44) text
