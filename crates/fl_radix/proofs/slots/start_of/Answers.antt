use Rattle.std.proofs.Common.{arith}
use Rattle.fl_radix.proofs.RisingKnots.{slot-rises}
use Rattle.fl_radix.proofs.slots.start_of.Goals as goal

pub returns-else-knots-start : goal.returns-else-knots-start
returns-else-knots-start c = record {
  within = omega arith;
  before = c.loop-start.invariant.before;
  after = λ j from within.
      let later = slot-rises c.args.knots.now c.args.shift c.loop-start.start j c.requires.rises from within in
      omega (arith, later, c.if-knots-start.false);
}
