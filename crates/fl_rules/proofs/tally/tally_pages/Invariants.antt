use Rattle.std.proofs.Common.{◌≡◌, ◌≤◌, ◌*◌, length, IsTrue}
use Rattle.fl_flash.specs.Flash.{page_at}
use Rattle.fl_frame.specs.Reads.{OnlyReads}
use Rattle.fl_ring.specs.Place.{shape_of}
use Rattle.fl_schema.specs.Schema.{layout_of}
use Rattle.fl_rules.specs.Rising.{HaveRows}
use Rattle.fl_rules.specs.Tally.{tally_of}
use Rattle.fl_rules.proofs.tally.tally_pages.Given as goal

abbrev pub invariant-loop-i : goal.invariant-loop-i
invariant-loop-i g l = record {
  reads : OnlyReads (g.F.Flash.state l.initial.flash) l.i (g.F.Flash.state l.flash);
  room : length l.buf.bytes ≡ (shape_of l.ring).size;
  few_rows : l.tally.rows ≤ l.i * 65535;
  few_voids : l.tally.voids ≤ l.i;
  tally : IsTrue (g.F.Flash.state l.initial.flash).media.tells → HaveRows (layout_of l.schema) (page_at (g.F.Flash.state l.initial.flash)) (shape_of l.ring) l.m
      → l.tally ≡ tally_of (layout_of l.schema) (page_at (g.F.Flash.state l.initial.flash)) (shape_of l.ring) l.m l.i;
}
