-- What one command does to a session, its sink and its medium, and what a list of commands does.
use Rattle.std.specs.Prelude.{◌≡◌, ℕ, false, IsTrue, Option, Result, OnOk, OnErr, List}
use Rattle.std.specs.List.{AllByRecursion}
use Rattle.fl_base.specs.Causes.{Rose, Appends, AppendsFront}
use Rattle.fl_flash.specs.Flash.{FlashState}
use Rattle.fl_model.specs.Record.{Config}
use Rattle.fl_words.specs.Command.{Command}
use Rattle.fl_words.specs.Reply.{texts}
use Rattle.fl_machine.specs.Machine.{Machine}
use Rattle.fl_machine.specs.Step.{Moment, Step}
use Rattle.fl_machine.specs.Found.{HasRoom, IsAtRest, RestsAt}
use Rattle.fl_machine.specs.OpenCursors.{AreWithin}
use Rattle.fl_machine.specs.Small.{IsSmall}
use Rattle.fl_machine.specs.Stays.{MomentStays}
use Rattle.fl_machine.specs.WholeReads.{RanReading, RanIntoReading}
use Rattle.fl_session.specs.Cost.{CountsReads, ReadsAsStated}

-- all but the cursors is the same
pub record IsAlike (a b : Machine) : Type 0 where
  pub cost : b.cost ≡ a.cost
  pub tables : b.tables ≡ a.tables
  pub mounted : b.mounted ≡ a.mounted
  pub device : b.device ≡ a.device

-- One command from a state of the machine: it goes on by a step and writes the texts of its replies. Where the
-- sink fails it writes a front of them, and only the cursors may be others than after the command.
pub record Executes {E : Type 0} (config : Config) (old : Machine) (command : Command) (stands : Machine → Type 0) (flash flash_now : FlashState) (told told_now : Option (List ℕ)) (result : Result (Unit {0}) E) : Type 0 where
  pub moment : Moment
  pub command_is : moment.command ≡ command
  pub step : Step config old moment
  pub after : Machine
  pub stands_after : stands after
  pub alike : IsAlike moment.after after
  pub same : OnOk result (after ≡ moment.after)
  pub reads : CountsReads flash moment flash_now command
  pub stated : ReadsAsStated config old moment flash_now result command
  pub stays : MomentStays config old moment flash.media.content flash_now.media.content
  pub rose : IsTrue moment.rose → Rose flash.media.faults flash_now.media.faults
  pub told_all : OnOk result (Appends told told_now (texts moment.replies))
  pub told_front : OnErr result (AppendsFront told told_now (texts moment.replies))

-- the configuration is one that is accepted, and the state one between two runs
pub record IsReady (config : Config) (old : Machine) : Type 0 where
  pub cursors : AreWithin old.cursors
  pub room : AllByRecursion HasRoom config.plans
  pub small : IsSmall config
  pub off : old.mounted ≡ false
  pub rest : AllByRecursion IsAtRest old.tables
  pub logs : (place : ℕ) → RestsAt config place old.tables

-- a session stands for a state but for the cursors
abbrev pub StandsAlike : (Machine → Type 0) → Machine → Type 0
StandsAlike stands machine = (after : Machine) × stands after × IsAlike machine after

-- the session, the sink and the medium's content and counts before and after
pub record Around : Type 0 where
  pub config : Config
  pub content : List ℕ
  pub content_now : List ℕ
  pub faults : ℕ
  pub faults_now : ℕ
  pub reads : ℕ
  pub reads_now : ℕ
  pub told : Option (List ℕ)
  pub told_now : Option (List ℕ)

-- from each state for which a session stood these commands were run, and it stands for the state after them
abbrev pub RanAll : Around → (Machine → Type 0) → (Machine → Type 0) → List Command → Type 0
RanAll around stands stands_now commands =
    (old : Machine) → stands old → IsReady around.config old →
    RanReading around.config old commands stands_now around.content around.content_now around.faults around.faults_now around.reads around.reads_now around.told around.told_now

-- .. and in the reply of the last of them the sink failed
abbrev pub RanPart : Around → (Machine → Type 0) → (Machine → Type 0) → List Command → Type 0
RanPart around stands stands_now commands =
    (old : Machine) → stands old → IsReady around.config old →
    RanIntoReading around.config old commands (StandsAlike stands_now) around.content around.content_now around.faults around.faults_now around.reads around.reads_now around.told around.told_now
