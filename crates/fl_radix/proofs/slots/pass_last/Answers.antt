use Rattle.std.proofs.Common.{arith}
use Rattle.fl_radix.proofs.PassedSlots.{passes-more, passes-none, passed-by}
use Rattle.fl_radix.proofs.slots.pass_last.Goals as goal

pub loop-passed-init : goal.loop-passed-init
loop-passed-init c = passes-none c.args.last c.args.slot c.args.starts.now c.requires

pub loop-passed-preserved : goal.loop-passed-preserved
loop-passed-preserved c =
    passes-more c.args.last c.args.slot c.loop-passed.passed c.args.starts.now c.loop-passed.starts c.loop-passed.invariant (omega arith) (omega arith)

pub returns-after-loop-passed : goal.returns-after-loop-passed
returns-after-loop-passed c = passed-by c.args.last c.args.slot c.loop-passed.passed c.args.starts.now c.loop-passed.starts c.loop-passed.invariant (λ some. absurd (omega (arith, some)))

pub returns-else-starts-passed : goal.returns-else-starts-passed
returns-else-starts-passed c = passed-by c.args.last c.args.slot c.loop-passed.passed c.args.starts.now c.loop-passed.starts c.loop-passed.invariant (λ some. omega (arith, some))
