-- The lines that a shell answers itself.
use Rattle.std.specs.Prelude.{ℕ, nat_lt, Option, Some, None, List, [], ◌∷◌, codes, length, if◌then◌else◌}
use Rattle.fl_model.specs.Record.{bytes_equal}
use Rattle.fl_words.specs.Grammar.{is_name, without_return, words_in}

pub data Own : Type 0 where
  Echo : (word : List ℕ) → Own
  First : (name : List ℕ) → Own
  Last : (name : List ℕ) → Own
  Describe : Own
  -- it begins with one of these words and hasn't its form
  Misformed : Own

-- the word of words that has no other one beside it
abbrev pub only : List (List ℕ) → Option (List ℕ)
only (word ∷ []) = Some word
only words = None

-- .. where it is a name
abbrev pub only_name : List (List ℕ) → Option (List ℕ)
only_name (word ∷ []) = if is_name word then Some word else None
only_name words = None

abbrev pub or_misformed : (List ℕ → Own) → Option (List ℕ) → Own
or_misformed own (Some word) = own word
or_misformed own None = Misformed

-- the word behind `echo`
abbrev pub echo_of : List (List ℕ) → Own
echo_of words = or_misformed Echo (only words)

-- the name of a table behind a word
abbrev pub named : (List ℕ → Own) → List (List ℕ) → Own
named own words = or_misformed own (only_name words)

abbrev pub alone : List (List ℕ) → Own
alone [] = Describe
alone (word ∷ words) = Misformed

-- by the first word and the others
abbrev pub own_named : List ℕ → List (List ℕ) → Option Own
own_named word words =
    if bytes_equal word (codes "echo") then Some (echo_of words)
    else if bytes_equal word (codes "first") then Some (named First words)
    else if bytes_equal word (codes "last") then Some (named Last words)
    else if bytes_equal word (codes "describe") then Some (alone words)
    else None

abbrev pub own_words : List (List ℕ) → Option Own
own_words [] = None
own_words (word ∷ words) = own_named word words

-- what the line asks of the shell itself, if it does: its words are parted as those of a command are
abbrev pub own_of : List ℕ → Option Own
own_of line = if nat_lt 4096 (length line) then None else own_words (words_in (without_return line))
