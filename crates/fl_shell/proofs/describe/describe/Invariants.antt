use Rattle.std.proofs.Common.{◌≤◌, Ok, take}
use Rattle.fl_base.specs.declared.stream.SinkFailed.{SinkFailed}
use Rattle.fl_config.specs.Whole.{Makes}
use Rattle.fl_flash.specs.Flash.{Stays}
use Rattle.fl_model.specs.Record.{Config}
use Rattle.fl_machine.specs.Machine.{Machine}
use Rattle.fl_session.specs.Caused.{OnlyLooks}
use Rattle.fl_shell.specs.Caused.{WritesSome}
use Rattle.fl_shell.proofs.DescribedImage.{SentSoFar}
use Rattle.fl_shell.proofs.describe.describe.Given as goal

abbrev pub invariant-tables : goal.invariant-tables
invariant-tables g l =
    let E = g.E.Executor in
    let K = g.K.Sink in
    record {
      sound : E.sound l.session;
      goes : Stays (E.flash l.fn.session) (E.flash l.session);
      later : K.faults l.fn.out ≤ K.faults l.out;
      looks : OnlyLooks (E.state l.fn.session) (E.state l.session) (E.state l.fn.session).notes;
      some : WritesSome {E = SinkFailed} (K.written l.fn.out) (K.written l.out) (Ok tt);
      sent : (configured : Config) (m : Machine) → Makes l.config configured → E.stands l.fn.session configured m →
          SentSoFar configured m (take l.at l.config.plans) (E.stands l.session configured) (E.flash l.fn.session) (E.flash l.session) (K.written l.fn.out) (K.written l.out);
    }
