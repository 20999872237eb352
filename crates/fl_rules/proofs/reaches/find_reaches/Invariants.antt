use Rattle.std.proofs.Common.{◌≡◌, ◌≤◌, ◌*◌, length, IsTrue}
use Rattle.fl_flash.specs.Flash.{page_at}
use Rattle.fl_frame.specs.Reads.{OnlyReads}
use Rattle.fl_ring.specs.Place.{shape_of}
use Rattle.fl_rules.specs.Reaches.{reach, AreReaches}
use Rattle.fl_rules.proofs.reaches.find_reaches.Given as goal

abbrev pub invariant-loop-i : goal.invariant-loop-i
invariant-loop-i g l = record {
  reads : OnlyReads (g.F.Flash.state l.initial.flash) l.i (g.F.Flash.state l.flash);
  room : length l.buf.bytes ≡ (shape_of l.ring).size;
  few : l.reach ≤ l.i * 65535;
  reach : IsTrue (g.F.Flash.state l.initial.flash).media.tells → l.reach ≡ reach (page_at (g.F.Flash.state l.initial.flash)) (shape_of l.ring) l.m.at l.i;
  reaches : IsTrue (g.F.Flash.state l.initial.flash).media.tells → AreReaches (page_at (g.F.Flash.state l.initial.flash)) (shape_of l.ring) l.m.at l.i l.reaches;
}
