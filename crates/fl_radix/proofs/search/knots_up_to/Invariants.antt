use Rattle.std.proofs.Common.{◌-◌, ◌+◌, ◌^◌, ◌<◌, ◌≤◌, min, length}
use Rattle.fl_base.specs.Bits.{bits}
use Rattle.fl_radix.specs.Slots.{AreUpTo, AreBeyond}
use Rattle.fl_radix.proofs.search.knots_up_to.Given as goal

abbrev pub invariant-loop-low : goal.invariant-loop-low
invariant-loop-low l = record {
  order : l.low ≤ l.high;
  within : l.high ≤ length l.knots;
  before : AreUpTo l.knots l.key l.low;
  after : AreBeyond l.knots l.key l.high;
  later : min l.initial.steps (2 ^ 64 - 1) ≤ l.steps;
  few : l.steps + bits (l.high - l.low) ≤ l.initial.steps + bits (length l.knots);
  counted : l.steps < 2 ^ 64 - 1 → l.initial.steps + bits (length l.knots + 1) ≤ l.steps + bits (l.high - l.low + 1);
}

abbrev pub decreases-loop-low : goal.decreases-loop-low
decreases-loop-low l = l.high - l.low
