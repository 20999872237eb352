-- What the flushes at the end of a shell do to a session.
use Rattle.std.specs.Prelude.{◌≡◌, ℕ, ◌*◌, ◌^◌, ◌≤◌, Bool, true, false, None, Ok, List, ◌++◌}
use Rattle.std.specs.List.{AllByRecursion}
use Rattle.fl_base.specs.declared.stream.SinkFailed.{SinkFailed}
use Rattle.fl_flash.specs.Flash.{FlashState}
use Rattle.fl_model.specs.Record.{Config}
use Rattle.fl_words.specs.Command as command
use Rattle.fl_machine.specs.Machine.{Machine}
use Rattle.fl_machine.specs.Reads.{none_read}
use Rattle.fl_machine.specs.Run.{end_of, commands_of}
use Rattle.fl_machine.specs.Script.{Ran}
use Rattle.fl_machine.specs.Step.{Moment}
use Rattle.fl_ends.specs.declared.shell.Flushed.{Flushed}
use Rattle.fl_session.specs.Execute.{Executes}
use Rattle.fl_shell.specs.Talk.{FlushesAll, IsDone, RanOver}

-- the table is flushed, and it is told whether the answer was `ok`
pub record FlushesOne (config : Config) (m : Machine) (name : List ℕ) (stands : Machine → Type 0) (flash flash_now : FlashState) (done : Bool) : Type 0 where
  pub executes : Executes {E = SinkFailed} config m (command.Flush name) stands flash flash_now None None (Ok tt)
  pub is_done : done ≡ true → IsDone executes.moment
  pub is_undone : done ≡ false → IsDone executes.moment → ⊥

-- the pages that are read for a line at most
abbrev pub most_of_a_line : ℕ
most_of_a_line = 15 * 2 ^ 16

-- for so many lines these moments were a run that left the flash so
pub record RanThese (config : Config) (old : Machine) (lines : ℕ) (moments : List Moment) (stands : Machine → Type 0) (content : List ℕ) (faults : ℕ) (flash : FlashState) : Type 0 where
  pub ran : Ran config old (commands_of moments) stands content flash.media.content faults flash.media.faults None None
  pub are : ran.moments ≡ moments
  pub counted : flash.work.reads ≤ lines * most_of_a_line

-- behind a run of some moments, what is pending is flushed, and that goes on with it
pub record FlushesBehind (config : Config) (old : Machine) (moments : List Moment) (stands : Machine → Type 0) (content content_now : List ℕ) (faults faults_now : ℕ) (flushed : Flushed) : Type 0 where
  pub flushes : List Moment
  pub flushes_all : FlushesAll config (end_of old moments) flushes flushed
  pub ran : RanOver config old (moments ++ flushes) stands content content_now faults faults_now
  pub unread : AllByRecursion none_read flushes
