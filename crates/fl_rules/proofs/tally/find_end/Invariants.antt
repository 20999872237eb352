use Rattle.std.proofs.Common.{◌≡◌, length, IsTrue}
use Rattle.fl_flash.specs.Flash.{page_at}
use Rattle.fl_frame.specs.Reads.{OnlyReads}
use Rattle.fl_ring.specs.Place.{shape_of}
use Rattle.fl_rules.specs.Tally.{listed_to}
use Rattle.fl_rules.proofs.tally.find_end.Given as goal

abbrev pub invariant-loop-i : goal.invariant-loop-i
invariant-loop-i g l = record {
  reads : OnlyReads (g.F.Flash.state l.initial.flash) l.i (g.F.Flash.state l.flash);
  room : length l.buf.bytes ≡ (shape_of l.ring).size;
  end : IsTrue (g.F.Flash.state l.initial.flash).media.tells → l.end ≡ listed_to l.per_page (page_at (g.F.Flash.state l.initial.flash)) (shape_of l.ring) l.m l.i;
}
