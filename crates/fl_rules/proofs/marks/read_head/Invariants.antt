use Rattle.std.proofs.Common.{◌≡◌, ◌<◌, ◌≤◌, length, IsTrue}
use Rattle.fl_ring.specs.Front.{IsFront}
use Rattle.fl_ring.specs.Head.{page_in}
use Rattle.fl_ring.specs.Looking.{state_at}
use Rattle.fl_frame.specs.Reads.{OnlyReads}
use Rattle.fl_ring.specs.Place.{shape_of}
use Rattle.fl_rules.proofs.marks.read_head.Given as goal

abbrev pub invariant-loop-i : goal.invariant-loop-i
invariant-loop-i g l = record {
  reads : OnlyReads (g.F.Flash.state l.initial.flash) l.i (g.F.Flash.state l.flash);
  room : length l.buf.bytes ≡ (shape_of l.ring).size;
  front : IsTrue (g.F.Flash.state l.initial.flash).media.tells → IsFront (λ i. state_at (g.F.Flash.state l.initial.flash) (page_in (shape_of l.ring) l.head i)) (shape_of l.ring).per_block l.i l.front;
  sealed : l.front.sealed ≤ l.i;
  below : l.front.sealed < (shape_of l.ring).per_block;
}
