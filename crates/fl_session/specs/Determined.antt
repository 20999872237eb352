-- What was run where no cut falls into an operation and the medium doesn't fail: what one plain program does.
use Rattle.std.specs.Prelude.{◌≡◌, ◌≤◌, ℕ, Option, Some, List, [], ◌∷◌, ◌++◌}
use Rattle.std.specs.List.{AllByRecursion}
use Rattle.fl_base.specs.Causes.{Appends, IsFront}
use Rattle.fl_model.specs.Record.{Config}
use Rattle.fl_words.specs.Command.{Command}
use Rattle.fl_words.specs.Reply.{texts}
use Rattle.fl_machine.specs.Determined.{IsWhole, SameRuns}
use Rattle.fl_machine.specs.Faults.{faults_told}
use Rattle.fl_machine.specs.Machine.{Machine}
use Rattle.fl_machine.specs.Operations.{DoesEach}
use Rattle.fl_machine.specs.Plain.{plain_run}
use Rattle.fl_machine.specs.Run.{Run, end_of, commands_of, written_by}
use Rattle.fl_machine.specs.Reads.{RunLimits, RunExact}
use Rattle.fl_machine.specs.Script.{KeepsReads, StandsAfter}
use Rattle.fl_machine.specs.Small.{most_of_a_command}
use Rattle.fl_machine.specs.Stays.{StaysEach}
use Rattle.fl_machine.specs.Step.{Moment}
use Rattle.fl_ends.specs.declared.run.Status.{Status}
use Rattle.fl_session.specs.Pending.{EndsAt}

-- no cut falls into an operation of the plain machine
abbrev pub IsUncut : Config → Machine → List Command → Type 0
IsUncut config old commands = AllByRecursion IsWhole (plain_run config old commands)

-- The moments of a run that is the plain machine's.
pub record IsPlainRun (config : Config) (old : Machine) (commands : List Command) (moments : List Moment) : Type 0 where
  pub commands_are : commands_of moments ≡ commands
  pub run : Run config old moments
  -- they reply what the plain machine does and end in its state, but for the numbers of reads that `cost` tells
  pub same : SameRuns old moments (plain_run config old commands)
  -- each of them does just its operations
  pub operations : DoesEach config old moments
  -- no reply tells of a fault
  pub no_fault : faults_told moments ≡ 0

-- These commands were run as the plain machine does, each of them whole, and their replies written. The medium stands for
-- the plain machine's state at the end, of which the status tells what is pending.
pub record RanPlainly (config : Config) (old : Machine) (commands : List Command) (status : Status) (content content_now : List ℕ) (told told_now : Option (List ℕ)) : Type 0 where
  pub moments : List Moment
  pub plain : IsPlainRun config old commands moments
  -- the numbers of reads are as is promised
  pub reads : KeepsReads config old moments
  pub stands_after : EndsAt config status content_now (end_of old (plain_run config old commands))
  pub stays : StaysEach config old moments content content_now
  pub told_all : Appends told told_now (written_by moments)

-- .. and in the reply of the last of them the sink failed
pub record RanPlainlyInto (config : Config) (old : Machine) (commands : List Command) (content content_now : List ℕ) (told told_now : Option (List ℕ)) : Type 0 where
  pub moments : List Moment
  pub plain : IsPlainRun config old commands moments
  pub stands_after : StandsAfter config (Some content_now) (end_of old (plain_run config old commands))
  pub stays : StaysEach config old moments content content_now
  pub before : List Moment
  pub last : Moment
  pub split : moments ≡ before ++ last ∷ []
  -- the numbers of reads are as is promised, but that the last command may have stopped before its reads were done
  pub limits : RunLimits config old moments
  pub few : AllByRecursion (λ moment. moment.reads ≤ most_of_a_command) moments
  pub exact : RunExact config old before
  pub front : List ℕ
  pub is_front : IsFront front (texts last.replies)
  pub told_front : Appends told told_now (written_by before ++ front)
