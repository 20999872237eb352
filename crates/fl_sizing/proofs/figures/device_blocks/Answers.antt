use Rattle.std.proofs.Common.{ℕ, ◌+◌, sym, ◌∙◌, ap, arith}
use Rattle.fl_sizing.specs.Sizes.{blocks_wanted}
use Rattle.fl_sizing.proofs.Tables.{next-sum}
use Rattle.fl_sizing.proofs.figures.device_blocks.Goals as goal

pub loop-i-preserved : goal.loop-i-preserved
loop-i-preserved c = (
  ap (λ (k : ℕ). k + c.blocks_wanted-blocks.result) c.loop-i.invariant.0
      ∙ sym (next-sum blocks_wanted c.args.config.now.plans c.loop-i.i c.table.result.now c.log.result c.blocks_wanted-blocks.result (omega (arith, c.loop-i-test.true, c.tables-i-end.ensures.exact)) c.table.ensures.plan c.log.ensures.place c.blocks_wanted-blocks.ensures.exact),
  omega (arith, c.loop-i.invariant.1, c.blocks_wanted-blocks.ensures.few),
)
