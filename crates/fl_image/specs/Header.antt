-- The configuration that the first bytes of an image tell.
use Rattle.std.specs.Prelude.{◌≡◌, ℕ, IsTrue, Option, Some, None, Result, Ok, Err, List, [], ◌∷◌}
use Rattle.std.specs.Option.{option_and_then}
use Rattle.fl_model.specs.Record.{Config}
use Rattle.fl_words.specs.Command.{Command}
use Rattle.fl_words.specs.Config.{ConfigFault, Lines, configured, no_lines}
use Rattle.fl_words.specs.Grammar.{LineFault, command_of}
use Rattle.fl_words.specs.Medium.{header}
use Rattle.fl_config.specs.Whole.{is_whole, Makes}

abbrev pub unless_refused : Result Lines ConfigFault → Option Lines
unless_refused (Ok lines) = Some lines
unless_refused (Err fault) = None

-- the configuration after a line, where that is a command and isn't refused
abbrev pub after_command : Lines → Result Command LineFault → Option Lines
after_command lines (Ok command) = unless_refused (configured lines command)
after_command lines (Err fault) = None

-- .. and after these lines, one by one
abbrev pub after_lines : Lines → List (List ℕ) → Option Lines
after_lines lines [] = Some lines
after_lines lines (text ∷ texts) = option_and_then (λ next. after_lines next texts) (after_command lines (command_of text))

-- lines make this configuration, and none of them is refused
abbrev pub IsAccepted : Lines → Type 0
IsAccepted lines = (texts : List (List ℕ)) × (after_lines no_lines texts ≡ Some lines)

-- accepted lines make a configuration
pub record IsMade (config : Config) : Type 0 where
  pub lines : Lines
  pub accepted : IsAccepted lines
  pub makes : Makes lines config

-- the bytes are the header of the images of a whole configuration
pub record IsHeaderOf (bytes : List ℕ) (lines : Lines) : Type 0 where
  pub whole : IsTrue (is_whole lines)
  pub text : (config : Config) → Makes lines config → bytes ≡ header config
