-- The lines that are read of a text, however long it is.
use Rattle.std.specs.Prelude.{ℕ, ◌^◌, Bool, nat_lt, unwrap_or, None, List, [], ◌∷◌, ◌++◌, length, take, if◌then◌else◌}
use Rattle.std.specs.List.{last_or}
use Rattle.fl_words.specs.Grammar.{lines_of}
use Rattle.fl_words.specs.Parts.{line_parts}

-- the bytes of a text that are read at most
abbrev pub most_bytes : ℕ
most_bytes = 2 ^ 24

-- all but the last
abbrev pub all_but_last : List (List ℕ) → List (List ℕ)
all_but_last [] = []
all_but_last (line ∷ []) = []
all_but_last (line ∷ next ∷ lines) = line ∷ all_but_last (next ∷ lines)

-- the lines that end with a newline, and the bytes behind them
abbrev pub whole_lines : List ℕ → List (List ℕ)
whole_lines text = all_but_last (line_parts text)

abbrev pub rest_of : List ℕ → List ℕ
rest_of text = unwrap_or (last_or None (line_parts text)) []

-- the rest, where it is too long for a line
abbrev pub long_rest : List ℕ → List (List ℕ)
long_rest text = if nat_lt 4096 (length (rest_of text)) then rest_of text ∷ [] else []

-- the lines that are read where at most so many bytes are: of a longer text the whole ones of these bytes, and a rest of
-- these that is too long for a line
abbrev pub lines_within : ℕ → List ℕ → List (List ℕ)
lines_within most text =
    if nat_lt most (length text)
    then whole_lines (take most text) ++ long_rest (take most text)
    else lines_of text

abbrev pub is_long : List ℕ → Bool
is_long text = nat_lt most_bytes (length text)

abbrev pub lines_read : List ℕ → List (List ℕ)
lines_read text = lines_within most_bytes text
