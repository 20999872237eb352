use Rattle.std.proofs.Common.{◌≡◌, ◌≤◌, ◌-◌, None, length, IsTrue}
use Rattle.fl_frame.specs.Reads.{OnlyReads}
use Rattle.fl_ring.specs.Place.{oldest_of}
use Rattle.fl_index.specs.Headers.{AreRemembered, kept_page}
use Rattle.fl_index.proofs.mount.read_firsts.Given as goal

abbrev pub invariant-loop-number : goal.invariant-loop-number
invariant-loop-number g l = record {
  from : oldest_of l.ring ≤ l.number;
  reads : OnlyReads (g.F.Flash.state l.initial.flash) (l.number - oldest_of l.ring) (g.F.Flash.state l.flash);
  room : length l.buf.bytes ≡ length l.initial.buf.bytes;
  none : l.buf.holds ≡ None;
  size : length l.firsts ≡ length l.initial.firsts;
  firsts : l.number - oldest_of l.ring ≤ length l.initial.firsts → IsTrue (g.F.Flash.state l.initial.flash).media.tells → AreRemembered (kept_page l.ring (g.F.Flash.state l.initial.flash)) (oldest_of l.ring) (l.number - oldest_of l.ring) l.firsts;
}
