use Rattle.std.proofs.Common.{◌≡◌, ℕ, List, map, take}
use Rattle.fl_flash.specs.Flash.{Stays}
use Rattle.fl_model.specs.Record.{Config}
use Rattle.fl_machine.specs.Machine.{Machine}
use Rattle.fl_machine.specs.Step.{Moment}
use Rattle.fl_session.specs.Execute.{IsReady, StandsAlike}
use Rattle.fl_shell.specs.Talk.{RanOver, flush_of}
use Rattle.fl_shell.specs.Caused.{CausesFlushes}
use Rattle.fl_shell.proofs.CausedFlushes.{names}
use Rattle.fl_shell.proofs.TableFlushes.{FlushedSoFar}
use Rattle.fl_shell.proofs.flush.flush_all.Given as goal

abbrev pub invariant-tables : goal.invariant-tables
invariant-tables g l =
    let E = g.E.Executor in
    record {
      sound : E.sound l.session;
      goes : Stays (E.flash l.fn.session) (E.flash l.session);
      told : CausesFlushes (names (take l.at l.config.plans)) (E.state l.fn.session) (E.state l.session) l.done;
      flushed : (configured : Config) (old : Machine) (moments : List Moment) (content : List ℕ) (faults : ℕ) → configured.plans ≡ l.config.plans → IsReady configured old →
          RanOver configured old moments (StandsAlike (E.stands l.fn.session configured)) content (E.flash l.fn.session).media.content faults (E.flash l.fn.session).media.faults →
          FlushedSoFar configured old moments (map flush_of (take l.at l.config.plans)) (StandsAlike (E.stands l.session configured)) content (E.flash l.session).media.content faults (E.flash l.session).media.faults l.done;
    }
