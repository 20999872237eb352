use Rattle.std.proofs.Common.{◌-◌, ◌/◌, ◌^◌, ◌<◌, ◌≤◌, ℕ}
use Rattle.fl_radix.proofs.slots.shift_for.Given as goal

abbrev pub invariant-loop-shift : goal.invariant-loop-shift
invariant-loop-shift l = record {
  small : l.shift < 64;
  least : (s : ℕ) → s < l.shift → l.slots ≤ l.width / 2 ^ s;
}

abbrev pub decreases-loop-shift : goal.decreases-loop-shift
decreases-loop-shift l = 64 - l.shift
