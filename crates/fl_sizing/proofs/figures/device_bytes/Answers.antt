use Rattle.std.proofs.Common.{ℕ, ◌+◌, sym, ◌∙◌, ap, arith}
use Rattle.fl_sizing.specs.Sizes.{table_memory}
use Rattle.fl_sizing.proofs.Tables.{next-sum}
use Rattle.fl_sizing.proofs.figures.device_bytes.Goals as goal

pub loop-i-preserved : goal.loop-i-preserved
loop-i-preserved c = (
  ap (λ (k : ℕ). k + c.memory-bytes.result) c.loop-i.invariant.0
      ∙ sym (next-sum table_memory c.args.config.now.plans c.loop-i.i c.table.result.now c.log.result c.memory-bytes.result (omega (arith, c.loop-i-test.true, c.tables-i-end.ensures.exact)) c.table.ensures.plan c.log.ensures.place c.memory-bytes.ensures.exact),
  omega (arith, c.loop-i.invariant.1, c.memory-bytes.ensures.few),
)
