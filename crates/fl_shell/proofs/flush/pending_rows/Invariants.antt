use Rattle.std.proofs.Common.{◌≡◌, ◌≤◌, ◌*◌, take, sum_by}
use Rattle.fl_model.specs.Record.{Config}
use Rattle.fl_machine.specs.Machine.{Machine}
use Rattle.fl_shell.specs.Caused.{PendingAre}
use Rattle.fl_shell.specs.Talk.{pending_in}
use Rattle.fl_shell.proofs.CausedFlushes.{names}
use Rattle.fl_shell.proofs.flush.pending_rows.Given as goal

abbrev pub invariant-tables : goal.invariant-tables
invariant-tables g l =
    let E = g.E.Executor in
    record {
      few : l.rows ≤ l.at * 4294967295;
      told : PendingAre (E.state l.session) (names (take l.at l.config.plans)) l.rows;
      sums : (configured : Config) (m : Machine) → configured.plans ≡ l.config.plans → E.stands l.session configured m → l.rows ≡ sum_by (λ plan. pending_in configured m plan.name) (take l.at l.config.plans);
    }
