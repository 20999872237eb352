-- The configuration that the leading lines of a shell make, over an empty medium.
use Rattle.std.specs.Prelude.{◌≡◌, ℕ, IsTrue, Option, Some, None, Result, Ok, Err, List, [], ◌∷◌, ◌++◌}
use Rattle.fl_words.specs.Command as command
use Rattle.fl_words.specs.Command.{Command}
use Rattle.fl_words.specs.Config.{Lines, configured, ConfigFault}
use Rattle.fl_words.specs.Grammar.{LineFault, command_of}
use Rattle.fl_config.specs.Whole.{is_whole}
use Rattle.fl_shell.specs.Own.{Own, Echo, Misformed, own_of}
use Rattle.fl_script.specs.Written.{Written}
use Rattle.fl_shell.specs.Refusal.{IsRefusal, line_of}

-- how a line goes on with a configuration
pub data Step : Type 0 where
  -- it is part of it, or nothing
  Takes : (now : Lines) → Step
  -- it is answered by its word
  Echoes : (word : List ℕ) → Step
  -- it is no command and none of the shell's own, or a line of the configuration that is refused
  Refuses : Step
  -- another command, or line of the shell's own: it ends the configuration, where that is whole
  Ends : Step

abbrev pub step_config : Result Lines ConfigFault → Step
step_config (Ok now) = Takes now
step_config (Err fault) = Refuses

abbrev pub step_command : Lines → Result Command LineFault → Step
step_command before (Ok (command.Device page block)) = step_config (configured before (command.Device page block))
step_command before (Ok (command.Table line)) = step_config (configured before (command.Table line))
step_command before (Ok command.Nothing) = Takes before
step_command before (Ok c) = Ends
step_command before (Err fault) = Refuses

-- by a line of the shell's own
abbrev pub step_asked : Own → Step
step_asked (Echo word) = Echoes word
step_asked Misformed = Refuses
step_asked own = Ends

abbrev pub step_own : Lines → Option Own → List ℕ → Step
step_own before (Some own) line = step_asked own
step_own before None line = step_command before (command_of line)

abbrev pub step_of : Lines → List ℕ → Step
step_of before line = step_own before (own_of line) line

-- a line that doesn't end the configuration gives this answer, and leads to these lines
abbrev pub LeadsTo : Lines → Step → List ℕ → Lines → Type 0
LeadsTo before (Takes now) answer after = (answer ≡ []) × (after ≡ now)
LeadsTo before (Echoes word) answer after = (answer ≡ line_of word) × (after ≡ before)
LeadsTo before Refuses answer after = IsRefusal answer × (after ≡ before)
LeadsTo before Ends answer after = IsRefusal answer × (after ≡ before) × (IsTrue (is_whole before) → ⊥)

-- these lines lead to this configuration, and give these answers
abbrev pub Leads : Lines → List (List ℕ) → List ℕ → Lines → Type 0
Leads before [] answers after = (answers ≡ []) × (after ≡ before)
Leads before (line ∷ lines) answers after =
    (answer : List ℕ) × (others : List ℕ) × (mid : Lines) × (answers ≡ answer ++ others) × LeadsTo before (step_of before line) answer mid × Leads mid lines others after

-- the first of the lines behind them ends the configuration, where there is one
abbrev pub IsEnded : Lines → List (List ℕ) → Type 0
IsEnded lines [] = Unit {0}
IsEnded lines (line ∷ others) = (step_of lines line ≡ Ends) × IsTrue (is_whole lines)

-- a line is answered so, or a front of the answer is written
abbrev pub LeadsBy : {E : Type 0} → Lines → Step → Lines → Option (List ℕ) → Option (List ℕ) → Result (Unit {0}) E → Type 0
LeadsBy before step after told told_now result = (answer : List ℕ) × LeadsTo before step answer after × Written told told_now result answer
