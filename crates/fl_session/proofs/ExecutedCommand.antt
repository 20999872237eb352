-- A command that was executed.
use Rattle.std.proofs.Common.{◌≡◌, ℕ, IsTrue, Option, Result, Ok, Err, List, refl}
use Rattle.fl_base.specs.Causes.{Rose}
use Rattle.fl_flash.specs.Flash.{FlashState}
use Rattle.fl_model.specs.Record.{Config}
use Rattle.fl_words.specs.Command.{Command}
use Rattle.fl_words.specs.Reply.{texts}
use Rattle.fl_machine.specs.Machine.{Machine}
use Rattle.fl_machine.specs.Stays.{MomentStays}
use Rattle.fl_machine.specs.Step.{Moment, Step}
use Rattle.fl_script.specs.Written.{Written}
use Rattle.fl_session.specs.Cost.{CountsReads, ReadsAsStated}
use Rattle.fl_session.specs.Execute.{Executes, IsAlike}

pub alike-same : (m : Machine) → IsAlike m m
alike-same m = record { cost = refl; tables = refl; mounted = refl; device = refl }

-- a step whose replies were written
pub executes-by : (E : Type 0) (config : Config) (old : Machine) (command : Command) (stands : Machine → Type 0) (f g : FlashState) (told told_now : Option (List ℕ)) (result : Result (Unit {0}) E) (moment : Moment) →
    moment.command ≡ command → Step config old moment → stands moment.after → MomentStays config old moment f.media.content g.media.content → CountsReads f moment g command → ReadsAsStated config old moment g result command → (IsTrue moment.rose → Rose f.media.faults g.media.faults) → Written {E = E} told told_now result (texts moment.replies) →
    Executes config old command stands f g told told_now result
executes-by E config old command stands f g told told_now (Ok done) moment is step s stays reads stated rose w = record {
  moment = moment;
  command_is = is;
  step = step;
  after = moment.after;
  stands_after = s;
  alike = alike-same moment.after;
  same = refl;
  reads = reads;
  stated = stated;
  stays = stays;
  rose = rose;
  told_all = w;
  told_front = tt;
}
executes-by E config old command stands f g told told_now (Err e) moment is step s stays reads stated rose w = record {
  moment = moment;
  command_is = is;
  step = step;
  after = moment.after;
  stands_after = s;
  alike = alike-same moment.after;
  same = tt;
  reads = reads;
  stated = stated;
  stays = stays;
  rose = rose;
  told_all = tt;
  told_front = w;
}
