use Rattle.std.proofs.Common.{arith, ◌≡◌, ◌+◌, ◌-◌, ◌/◌, ◌≤◌}
use Rattle.fl_base.specs.Bits.{bits}
use Rattle.fl_base.proofs.BitsGrow.{bits-half, bits-twice, bits-one}
use Rattle.fl_radix.proofs.RisingKnots.{up-to-more, beyond-from}
use Rattle.fl_radix.proofs.search.knots_up_to.Goals as goal

pub loop-low-preserved-then-knots-middle : goal.loop-low-preserved-then-knots-middle
loop-low-preserved-then-knots-middle c =
    let fewer : bits (c.loop-low.high - (c.loop-low.low + (c.loop-low.high - c.loop-low.low) / 2 + 1)) + 1 ≤ bits (c.loop-low.high - c.loop-low.low)
    = bits-half _ _ (omega arith) (omega arith) (omega arith) in
    let half : bits (c.loop-low.high - c.loop-low.low + 1) ≤ bits (c.loop-low.high - (c.loop-low.low + (c.loop-low.high - c.loop-low.low) / 2 + 1) + 1) + 1
    = bits-twice _ _ (omega arith) (omega arith) (omega arith) in
    record {
      order = omega arith;
      within = omega arith;
      before = up-to-more _ _ _ c.requires (omega arith) c.if-knots-middle.true;
      after = c.loop-low.invariant.after;
      later = omega arith;
      few = omega (arith, fewer);
      counted = λ less. let had = c.loop-low.invariant.counted (omega (arith, less)) in omega (arith, had, half, less);
    }

pub loop-low-preserved : goal.loop-low-preserved
loop-low-preserved c =
    let fewer : bits (c.loop-low.low + (c.loop-low.high - c.loop-low.low) / 2 - c.loop-low.low) + 1 ≤ bits (c.loop-low.high - c.loop-low.low)
    = bits-half _ _ (omega arith) (omega arith) (omega arith) in
    let half : bits (c.loop-low.high - c.loop-low.low + 1) ≤ bits (c.loop-low.low + (c.loop-low.high - c.loop-low.low) / 2 - c.loop-low.low + 1) + 1
    = bits-twice _ _ (omega arith) (omega arith) (omega arith) in
    record {
      order = omega arith;
      within = omega arith;
      before = c.loop-low.invariant.before;
      after = beyond-from _ _ _ c.requires c.if-knots-middle.false;
      later = omega arith;
      few = omega (arith, fewer);
      counted = λ less. let had = c.loop-low.invariant.counted (omega (arith, less)) in omega (arith, had, half, less);
    }

pub returns-clause-least : goal.returns-clause-least
returns-clause-least c = λ less.
    let had = c.loop-low.invariant.counted less in
    let none : c.loop-low.high - c.loop-low.low ≡ 0 = omega (arith, c.loop-low-test.false) in
    let one = bits-one _ none in
    omega (arith, had, one)
