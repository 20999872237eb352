use Rattle.std.proofs.Common.{◌≡◌, ◌+◌, ◌<◌, ◌≤◌, length, IsTrue}
use Rattle.fl_flash.specs.Flash.{page_at}
use Rattle.fl_frame.specs.Reads.{OnlyReads}
use Rattle.fl_ring.specs.Place.{shape_of}
use Rattle.fl_check.specs.Entries.{over, kept_below, AreSeen}
use Rattle.fl_check.proofs.rule_6_entry.first_misentered.Given as goal

abbrev pub invariant-loop-i : goal.invariant-loop-i
invariant-loop-i g l = record {
  reads : OnlyReads (g.F.Flash.state l.initial.flash) (l.i + kept_below l.l.rows l.seen.end) (g.F.Flash.state l.flash);
  listing : length l.listing.bytes ≡ (shape_of l.index).size;
  room : length l.buf.bytes ≡ (shape_of l.rows).size;
  few : l.i ≤ l.l.index.kept;
  last : 0 < l.seen.end → l.seen.last < l.i;
  seen : IsTrue (g.F.Flash.state l.initial.flash).media.tells → AreSeen (page_at (g.F.Flash.state l.initial.flash)) (shape_of l.index) (shape_of l.rows) (over l.l) l.i l.seen;
}
