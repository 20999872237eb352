-- The lines of an input: the line of the names, and a line for each record below it.
use Rattle.std.specs.Prelude.{◌≡◌, ◌⊎◌, ℕ, ◌<◌, ◌≤◌, Bool, Result, List, [], ◌∷◌, ◌++◌, length, drop, map}
use Rattle.std.specs.List.{AllByRecursion}
use Rattle.fl_csv.specs.Lines.{IsHeader, lacks_blob, line_put}
use Rattle.fl_csv.specs.declared.record.GoneBlobs.{GoneBlobs}
use Rattle.fl_csv.specs.declared.record.CsvRefusal.{CsvRefusal}
use Rattle.fl_lines.specs.Texts.{lines_read}
use Rattle.fl_model.specs.Record.{Record}
use Rattle.fl_words.specs.Grammar.{without_return}

-- what a line below it means: a record, or why it is none
abbrev pub meaning : GoneBlobs → ℕ → Bool → List ℕ → Result Record CsvRefusal
meaning gone columns blobs line = line_put gone columns blobs (without_return line)

-- .. and whether a blob that is gone is left out of that record
abbrev pub lacks : GoneBlobs → ℕ → Bool → List ℕ → Bool
lacks gone columns blobs line = lacks_blob gone columns blobs (without_return line)

-- what the lines below the first one mean, in turn
abbrev pub meanings : GoneBlobs → ℕ → Bool → List (List ℕ) → List (Result Record CsvRefusal)
meanings gone columns blobs lines = map (meaning gone columns blobs) (drop 1 lines)

-- the first of some lines is the line of the names
abbrev pub IsHeaded : ℕ → Bool → List (List ℕ) → Type 0
IsHeaded columns blobs [] = Unit {0}
IsHeaded columns blobs (line ∷ lines) = IsHeader columns blobs (without_return line)

-- These lines of a text were taken, in turn, and those are left: none that was taken is too long, and the first is the line
-- of the names.
pub record Takes (columns : ℕ) (blobs : Bool) (text : List ℕ) (taken left : List (List ℕ)) : Type 0 where
  pub split : lines_read text ≡ taken ++ left
  pub short : AllByRecursion (λ line. length line ≤ 4096) taken
  pub headed : IsHeaded columns blobs taken

-- The next line can't be taken: there is no line of the names, or it is another one, or a line is too long.
abbrev pub IsBad : ℕ → Bool → List (List ℕ) → List (List ℕ) → Type 0
IsBad columns blobs [] [] = Unit {0}
IsBad columns blobs [] (line ∷ left) = (4096 < length line) ⊎ (IsHeader columns blobs (without_return line) → ⊥)
IsBad columns blobs (first ∷ taken) [] = ⊥
IsBad columns blobs (first ∷ taken) (line ∷ left) = 4096 < length line
