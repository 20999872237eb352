use Rattle.std.proofs.Common.{◌-◌, ◌<◌, ◌≤◌, ℕ, length}
use Rattle.fl_spline.specs.Segment.{point_at}
use Rattle.fl_radix.specs.Slots.{slot_of}
use Rattle.fl_radix.proofs.slots.start_of.Given as goal

abbrev pub invariant-loop-start : goal.invariant-loop-start
invariant-loop-start l = record {
  within : l.start ≤ length l.knots;
  before : (j : ℕ) → j < l.start → slot_of l.knots l.shift (point_at l.knots j).0 < l.slot;
}

abbrev pub decreases-loop-start : goal.decreases-loop-start
decreases-loop-start l = length l.knots - l.start
