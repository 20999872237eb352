-- How many bytes of a script were taken from its source.
use Rattle.std.specs.Prelude.{◌≡◌, ℕ, ◌+◌, Option, List, ◌++◌, length}
use Rattle.fl_machine.specs.Script.{Start, Ready, Unended, BadLine, BadConfig, start_of}
use Rattle.fl_lines.specs.Taken.{TakesFew}
use Rattle.fl_lines.specs.Texts.{lines_read}

-- of the line of this number, at most 4,097 bytes were taken from its first byte on, and of the script at most one more than are read
pub record TakesLine (text : List ℕ) (number : ℕ) (left_now : Option (List ℕ)) : Type 0 where
  pub before : List (List ℕ)
  pub others : List (List ℕ)
  pub split : lines_read text ≡ before ++ others
  pub number_is : number ≡ length before + 1
  pub few : TakesFew text before left_now

-- the configuration doesn't end with these lines
abbrev pub IsUnended : Start → Type 0
IsUnended (Unended config n) = Unit {0}
IsUnended (Ready config n lines) = ⊥
IsUnended (BadLine n) = ⊥
IsUnended (BadConfig n) = ⊥

-- .. of a line of the configuration, or of the one behind it
pub record TakesBegin (knots : ℕ) (text : List ℕ) (left_now : Option (List ℕ)) : Type 0 where
  pub before : List (List ℕ)
  pub others : List (List ℕ)
  pub split : lines_read text ≡ before ++ others
  pub unended : IsUnended (start_of knots before)
  pub few : TakesFew text before left_now
