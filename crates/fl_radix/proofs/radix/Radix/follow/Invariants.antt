use Rattle.std.proofs.Common.{◌≡◌, ◌-◌, ◌<◌, ◌≤◌, ℕ, length}
use Rattle.std.specs.Prelude.{slice_index}
use Rattle.fl_spline.specs.Segment.{point_at}
use Rattle.fl_radix.specs.Slots.{slot_of, first_key, last_key, IsLeastShift, IsStart}
use Rattle.fl_radix.proofs.radix.Radix.follow.Given as goal

abbrev pub invariant-loop-slot : goal.invariant-loop-slot
invariant-loop-slot g l = record {
  filled : length l.self.starts.items ≡ l.slot;
  first : l.self.first ≡ first_key l.knots;
  shift : IsLeastShift g.row.SLOTS (last_key l.knots - first_key l.knots) l.self.shift;
  small : l.self.shift < 64;
  within : l.start ≤ length l.knots;
  before : (j : ℕ) → j < l.start → slot_of l.knots l.self.shift (point_at l.knots j).0 < l.slot;
  starts : (slot : ℕ) → slot < l.slot → IsStart l.knots l.self.shift slot (slice_index l.self.starts.items slot);
}
