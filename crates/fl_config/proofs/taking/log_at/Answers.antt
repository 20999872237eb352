use Rattle.std.proofs.Common.{◌≡◌, ◌+◌, arith, subst}
use Rattle.std.specs.Prelude.{unwrap_or}
use Rattle.fl_plan.specs.Plan.{IsRingAt}
use Rattle.fl_plan.specs.Refusal.{nameless}
use Rattle.fl_plan.proofs.Faults.{blocks_in-le}
use Rattle.fl_config.specs.Places.{end_from}
use Rattle.fl_config.proofs.taking.log_at.Goals as goal

pub overflow_cast-blocks : goal.overflow_cast-blocks
overflow_cast-blocks c =
    let limits = c.requires.limits in
    omega (arith, c.blocks-2.ensures nameless, limits.rows.1, blocks_in-le c.args.config.now.index limits.index, blocks_in-le c.args.config.now.var limits.var)

pub overflow_add-first_block : goal.overflow_add-first_block
overflow_add-first_block c =
    let limits = c.requires.limits in
    omega (arith, c.blocks-2.ensures nameless, c.requires.few, limits.rows.1, blocks_in-le c.args.config.now.index limits.index, blocks_in-le c.args.config.now.var limits.var)

pub returns : goal.returns
returns c =
    let end : c.args.first_block + c.blocks-2.result ≡ end_from c.args.first_block c.args.config.now = omega (arith, c.blocks-2.ensures nameless) in
    subst (λ n. IsRingAt c.ring_at.result n (unwrap_or c.args.log 0)) end
    (subst (λ n. IsRingAt c.ring_at.result (c.args.first_block + c.blocks-2.result) n) c.unwrap_or.ensures c.ring_at.ensures)
