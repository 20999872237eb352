-- The next line of a script as a command, or how the script ends there.
use Rattle.std.specs.Prelude.{◌≡◌, ℕ, Bool, true, false, Option, Some, None, Result, Ok, Err, List}
use Rattle.fl_words.specs.Command as words
use Rattle.fl_words.specs.Grammar as grammar
use Rattle.fl_words.specs.Grammar.{command_of}
use Rattle.fl_machine.specs.Script.{runs}
use Rattle.fl_script.specs.declared.command.Command.{Command}
use Rattle.fl_script.specs.CommandView.{command_view}
use Rattle.fl_lines.specs.declared.lines.LinesFault.{LinesFault}
use Rattle.fl_lines.specs.declared.lines.LinesFault.TheVariants.{Failed, Long}
use Rattle.fl_lines.specs.Stream.{LinesState, Advances}
use Rattle.fl_ends.specs.declared.run.Status.{Status}
use Rattle.fl_ends.specs.declared.run.Status.TheVariants.{Line, ScriptRead, ScriptLong}
use Rattle.fl_session.specs.Runnable.{is_within, IsRunnable}

abbrev pub is_config_line : words.Command → Bool
is_config_line (words.Device page block) = true
is_config_line (words.Table line) = true
is_config_line c = false

-- the line isn't in the grammar
abbrev pub IsRefused : Result words.Command grammar.LineFault → Type 0
IsRefused (Ok c) = ⊥
IsRefused (Err fault) = Unit {0}

-- it is a command, whose numbers are within the bounds that the code needs
pub record IsRead (line : List ℕ) (command : words.Command) : Type 0 where
  pub reads : command_of line ≡ Ok command
  pub within : is_within command ≡ true

-- .. and is run
pub record IsToRun (line : List ℕ) (command : words.Command) : Type 0 where
  pub reads : command_of line ≡ Ok command
  pub runnable : IsRunnable command

-- how a script ends at a line that was asked for
abbrev pub EndsThere : Result Bool LinesFault → List ℕ → ℕ → Type 0 → Status → Type 0
EndsThere (Ok true) line number Refused (Line n) = (n ≡ number) × Refused
EndsThere (Err Failed) line number Refused ScriptRead = Unit {0}
EndsThere (Err Long) line number Refused ScriptLong = Unit {0}
EndsThere given line number Refused status = ⊥

-- `given` says whether a line was given
abbrev pub NextOf : Result Bool LinesFault → List ℕ → ℕ → Result (Option Command) Status → List ℕ → Type 0
NextOf given line number (Ok (Some command)) room = (given ≡ Ok true) × IsRead line (command_view command room)
NextOf given line number (Ok None) room = given ≡ Ok false
NextOf given line number (Err status) room = EndsThere given line number (IsRefused (command_of line)) status

pub record NextCommand (old : LinesState) (left : Option (List ℕ)) (faults number : ℕ) (result : Result (Option Command) Status) (room : List ℕ) (new : LinesState) (left_now : Option (List ℕ)) (faults_now : ℕ) : Type 0 where
  pub given : Result Bool LinesFault
  pub advances : Advances old left faults given new left_now faults_now
  pub next : NextOf given new.line number result room

-- the same for a line behind the configuration
abbrev pub NextRunOf : Result Bool LinesFault → List ℕ → ℕ → Result (Option Command) Status → List ℕ → Type 0
NextRunOf given line number (Ok (Some command)) room = (given ≡ Ok true) × IsToRun line (command_view command room)
NextRunOf given line number (Ok None) room = given ≡ Ok false
NextRunOf given line number (Err status) room = EndsThere given line number (runs line ≡ None) status

pub record NextRun (old : LinesState) (left : Option (List ℕ)) (faults number : ℕ) (result : Result (Option Command) Status) (room : List ℕ) (new : LinesState) (left_now : Option (List ℕ)) (faults_now : ℕ) : Type 0 where
  pub given : Result Bool LinesFault
  pub advances : Advances old left faults given new left_now faults_now
  pub next : NextRunOf given new.line number result room

abbrev pub is_nothing : words.Command → Bool
is_nothing words.Nothing = true
is_nothing c = false
