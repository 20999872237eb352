-- An end that failed has one line.
use Rattle.std.specs.Prelude.{◌≡◌, ℕ, ◌==◌, Bool, true, false, List, [], ◌∷◌, if◌then◌else◌}
use Rattle.fl_command.specs.Number.{number_of}
use Rattle.fl_command.specs.Text.{exit_headline}
use Rattle.fl_command.specs.declared.exit.Exit.{Exit}

abbrev pub is_end : List ℕ → Bool
is_end [] = true
is_end (byte ∷ bytes) = false

-- a text of one line: its first newline is its last byte
abbrev pub is_line : List ℕ → Bool
is_line [] = false
is_line (byte ∷ bytes) = if byte == 10 then is_end bytes else is_line bytes

-- whatever its status, and whatever numbers stand in its headline
abbrev pub FailuresHaveOneLine : Type 0
FailuresHaveOneLine = (exit : Exit) → (number_of exit ≡ 0 → ⊥) → is_line (exit_headline exit) ≡ true
