use Rattle.std.proofs.Common.{◌≡◌, ◌≤◌, ◌*◌, length, IsTrue}
use Rattle.fl_flash.specs.Flash.{page_at}
use Rattle.fl_frame.specs.Reads.{OnlyReads}
use Rattle.fl_ring.specs.Place.{shape_of}
use Rattle.fl_map.specs.Pages.{states_to, figures_to}
use Rattle.fl_map.proofs.ring.read_pages.Given as goal

abbrev pub invariant-loop-i : goal.invariant-loop-i
invariant-loop-i g l = record {
  reads : OnlyReads (g.F.Flash.state l.initial.flash) l.i (g.F.Flash.state l.flash);
  room : length l.buf.bytes ≡ (shape_of l.ring).size;
  count : length l.states.items ≡ l.i;
  few : l.figures.committed ≤ l.i;
  few_rows : l.figures.rows ≤ l.i * 65535;
  states : IsTrue (g.F.Flash.state l.initial.flash).media.tells → l.states.items ≡ states_to (page_at (g.F.Flash.state l.initial.flash)) (shape_of l.ring).first l.i;
  figures : IsTrue (g.F.Flash.state l.initial.flash).media.tells → l.figures ≡ figures_to l.row_len (page_at (g.F.Flash.state l.initial.flash)) (shape_of l.ring).first l.i;
}
