-- A whole script: its configuration, the commands that it runs, and how a run over a medium ends.
use Rattle.std.specs.Prelude.{◌≡◌, ℕ, ◌+◌, ◌-◌, ◌^◌, ◌≤◌, ◌⊎◌, Option, Some, None, IfSome, Result, Ok, Err, List, [], ◌∷◌, ◌++◌, map}
use Rattle.std.specs.List.{AllByRecursion}
use Rattle.fl_model.specs.Table.{Table, lose}
use Rattle.fl_words.specs.Command as command
use Rattle.fl_words.specs.Command.{Command}
use Rattle.fl_machine.specs.Machine.{Machine, begins, fresh_tables}
use Rattle.fl_machine.specs.Step.{Moment}
use Rattle.fl_machine.specs.Run.{Run, end_of, commands_of, written_by, risen_in}
use Rattle.fl_machine.specs.Found.{FindsAt}
use Rattle.fl_machine.specs.Keeping.{KeepsPutsAt}
use Rattle.fl_machine.specs.Reads.{RunLimits, RunExact}
use Rattle.fl_machine.specs.Small.{most_of_a_command}
use Rattle.fl_machine.specs.Stays.{StaysEach}
use Rattle.fl_words.specs.Grammar.{LineFault, command_of}
use Rattle.fl_words.specs.Config.{Lines, no_lines, configured, whole, ConfigFault}
use Rattle.fl_base.specs.Causes.{Appends, IsFront}
use Rattle.fl_words.specs.Reply.{texts}
use Rattle.fl_model.specs.Record.{Config}
use Rattle.fl_words.specs.Medium.{IsImage}

-- the command that a line runs, if it may stand behind the configuration
abbrev pub runs_command : Command → Option Command
runs_command (command.Device page block) = None
runs_command (command.Table line) = None
runs_command c = Some c

abbrev pub runs_read : Result Command LineFault → Option Command
runs_read (Ok c) = runs_command c
runs_read (Err fault) = None

abbrev pub runs : List ℕ → Option Command
runs line = runs_read (command_of line)

-- the commands of the lines before the first that is refused
abbrev pub accepted_onto : Option Command → List Command → List Command
accepted_onto (Some c) commands = c ∷ commands
accepted_onto None commands = []

abbrev pub accepted : List (List ℕ) → List Command
accepted [] = []
accepted (line ∷ lines) = accepted_onto (runs line) (accepted lines)

-- the number of the first line that is refused, where the first line has the number n
abbrev pub refused_onto : Option Command → ℕ → Option ℕ → Option ℕ
refused_onto (Some c) n others = others
refused_onto None n others = Some n

abbrev pub first_refused : ℕ → List (List ℕ) → Option ℕ
first_refused n [] = None
first_refused n (line ∷ lines) = refused_onto (runs line) n (first_refused (n + 1) lines)

-- how the configuration of a script ends: at a command line, with its number and the lines from it on, by a faulty
-- line, or by a refused one; or the lines end first, and then the configuration is whole or not
pub data Start : Type 0 where
  Ready : (config : Config) (line : ℕ) (lines : List (List ℕ)) → Start
  Unended : (config : Option Config) (line : ℕ) → Start
  BadLine : (line : ℕ) → Start
  BadConfig : (line : ℕ) → Start

abbrev pub start_with : Option Config → ℕ → List (List ℕ) → Start
start_with None n lines = BadConfig 0
start_with (Some config) n lines = Ready config n lines

abbrev pub start_config : ℕ → Result Lines ConfigFault → (Lines → Start) → Start
start_config n (Ok now) go = go now
start_config n (Err fault) go = BadConfig n

abbrev pub start_line : ℕ → ℕ → Lines → List ℕ → List (List ℕ) → Result Command LineFault → (Lines → Start) → Start
start_line knots n before line lines (Err fault) go = BadLine n
start_line knots n before line lines (Ok (command.Device page block)) go = start_config n (configured before (command.Device page block)) go
start_line knots n before line lines (Ok (command.Table words)) go = start_config n (configured before (command.Table words)) go
start_line knots n before line lines (Ok command.Nothing) go = go before
start_line knots n before line lines (Ok c) go = start_with (whole knots before) n (line ∷ lines)

abbrev pub start_from : ℕ → ℕ → Lines → List (List ℕ) → Start
start_from knots n before [] = Unended (whole knots before) n
start_from knots n before (line ∷ lines) =
    start_line knots n before line lines (command_of line) (λ now. start_from knots (n + 1) now lines)

-- what a script begins with
abbrev pub start_of : ℕ → List (List ℕ) → Start
start_of knots lines = start_from knots 1 no_lines lines

-- the end of the script ends the configuration too
abbrev pub ended : Start → Start
ended (Unended config n) = start_with config n []
ended (Ready config n lines) = Ready config n lines
ended (BadLine n) = BadLine n
ended (BadConfig n) = BadConfig n

-- a medium stands for a state between two runs: a new one, or one that an earlier run left
abbrev pub StandsFor : Config → List ℕ → Machine → Type 0
StandsFor config bytes machine =
    ((bytes ≡ []) × (machine ≡ begins (fresh_tables config)))
    ⊎ ((tables : List Table) × IsImage config bytes tables × (machine ≡ begins tables))

-- where the medium tells its content, it stands for the state after the session ended
abbrev pub StandsAfter : Config → Option (List ℕ) → Machine → Type 0
StandsAfter config content machine = IfSome content (λ bytes. IsImage config bytes (map lose machine.tables))

-- a count of faults rose by at least this much, or stands at its end
abbrev pub RoseBy : ℕ → ℕ → ℕ → Type 0
RoseBy n before now = (before + n ≤ now) ⊎ (2 ^ 64 - 1 ≤ now)

-- The moments of a run, each of which reads as many pages as it may: no command reads more than its limit, which is never a
-- great one, a get, a scan and an operator over one range as many as are promised, and one that answers a read fault at least one.
pub record KeepsReads (config : Config) (old : Machine) (moments : List Moment) : Type 0 where
  pub limits : RunLimits config old moments
  pub few : AllByRecursion (λ moment. moment.reads ≤ most_of_a_command) moments
  pub exact : RunExact config old moments

-- A run of these commands, each of them done whole. `stands` says for which states the session stands then; `content` is the
-- medium's before and after.
pub record Ran (config : Config) (old : Machine) (commands : List Command) (stands : Machine → Type 0) (content content_now : List ℕ) (faults faults_now : ℕ) (told told_now : Option (List ℕ)) : Type 0 where
  pub moments : List Moment
  pub commands_are : commands_of moments ≡ commands
  pub run : Run config old moments
  pub stands_after : stands (end_of old moments)
  pub reads : KeepsReads config old moments
  -- each leaves the medium as its state says, and what it doesn't touch there as it was
  pub stays : StaysEach config old moments content content_now
  -- the medium's faults rose in no more of them than it failed
  pub rose : RoseBy (risen_in moments) faults faults_now
  -- each mount that succeeds finds the records of each table
  pub found : (place : ℕ) → FindsAt config place old moments
  -- .. and of each table with a log all that was put
  pub kept : (place : ℕ) → KeepsPutsAt config place old moments
  pub told_all : Appends told told_now (written_by moments)

-- .. and into the reply of the last of them, in which the sink failed
pub record RanInto (config : Config) (old : Machine) (commands : List Command) (stands : Machine → Type 0) (content content_now : List ℕ) (faults faults_now : ℕ) (told told_now : Option (List ℕ)) : Type 0 where
  pub moments : List Moment
  pub commands_are : commands_of moments ≡ commands
  pub run : Run config old moments
  pub stands_after : stands (end_of old moments)
  -- the last one may have stopped before its reads were done
  pub limits : RunLimits config old moments
  pub few : AllByRecursion (λ moment. moment.reads ≤ most_of_a_command) moments
  pub stays : StaysEach config old moments content content_now
  pub rose : RoseBy (risen_in moments) faults faults_now
  pub found : (place : ℕ) → FindsAt config place old moments
  pub kept : (place : ℕ) → KeepsPutsAt config place old moments
  -- the replies before those of the last are written whole
  pub before : List Moment
  pub last : Moment
  pub split : moments ≡ before ++ last ∷ []
  pub exact : RunExact config old before
  pub front : List ℕ
  pub is_front : IsFront front (texts last.replies)
  pub told_front : Appends told told_now (written_by before ++ front)
