use Rattle.std.proofs.Common.{◌≡◌, ◌+◌, ◌<◌, ◌≤◌, ℕ, List, length, take, sym, ◌∙◌, subst, arith}
use Rattle.fl_shell.specs.Caused.{PendingAre, PendingIs}
use Rattle.fl_shell.specs.Talk.{pending_in}
use Rattle.fl_shell.proofs.CausedFlushes.{all-named, names, names-more, pending-more}
use Rattle.fl_shell.proofs.TableFlushes.{sum-more}
use Rattle.fl_shell.proofs.flush.pending_rows.Goals as goal

pub tables-preserved : goal.tables-preserved
tables-preserved g c =
    let i = c.tables.invariant in
    let fits : c.from-rows.result ≤ 4294967295 = omega arith in
    let within : c.tables.at < length c.args.config.now.plans = omega (arith, c.tables-at-end.ensures.exact) in
    record {
      few = omega (arith, i.few, fits);
      told =
          let more = pending-more (g.E.Executor.state c.args.session.now) (names (take c.tables.at c.args.config.now.plans)) c.name.result c.tables.rows c.from-rows.result i.told
          (subst (λ (n : ℕ). PendingIs (g.E.Executor.state c.args.session.now) c.name.result n) (sym c.from-rows.ensures) c.pending_in.ensures.told) in
          subst (λ (all : List (List ℕ)). PendingAre (g.E.Executor.state c.args.session.now) all (c.tables.rows + c.from-rows.result)) (sym (names-more c.args.config.now.plans c.tables.at c.name.result within c.name.ensures)) more;
      sums = λ configured m plans here.
          let f : List ℕ → ℕ = λ name. pending_in configured m name in
          let one : c.from-rows.result ≡ f c.name.result = c.from-rows.ensures ∙ c.pending_in.ensures.holds configured m here in
          let more = sum-more f c.args.config.now.plans c.tables.at c.name.result within c.name.ensures in
          omega (arith, i.sums configured m plans here, one, more);
    }

pub returns-clause-told : goal.returns-clause-told
returns-clause-told g c =
    subst (λ (all : List (List ℕ)). PendingAre (g.E.Executor.state c.args.session.now) all c.tables.rows) (all-named c.args.config.now.plans c.tables.at (omega (arith, c.tables-at-end.ensures.exact))) c.tables.invariant.told
