use Rattle.std.proofs.Common.{◌≡◌, length, IsTrue}
use Rattle.fl_flash.specs.Flash.{page_at}
use Rattle.fl_frame.specs.Reads.{OnlyReads}
use Rattle.fl_ring.specs.Place.{shape_of}
use Rattle.fl_rules.specs.States.{AreBlank}
use Rattle.fl_rules.proofs.rule_2_state.first_written.Given as goal

abbrev pub invariant-loop-j : goal.invariant-loop-j
invariant-loop-j g l = record {
  reads : OnlyReads (g.F.Flash.state l.initial.flash) l.j (g.F.Flash.state l.flash);
  room : length l.buf.bytes ≡ (shape_of l.ring).size;
  blank : IsTrue (g.F.Flash.state l.initial.flash).media.tells → AreBlank (page_at (g.F.Flash.state l.initial.flash)) (shape_of l.ring) l.at l.from l.j;
}
