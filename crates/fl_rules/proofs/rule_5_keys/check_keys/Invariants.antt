use Rattle.std.proofs.Common.{◌≡◌, length, IsTrue}
use Rattle.fl_flash.specs.Flash.{page_at}
use Rattle.fl_frame.specs.Reads.{OnlyReads}
use Rattle.fl_ring.specs.Place.{shape_of}
use Rattle.fl_schema.specs.Schema.{layout_of}
use Rattle.fl_rules.specs.Claims.{AllBelow}
use Rattle.fl_rules.specs.Rising.{last_key, Rises}
use Rattle.fl_rules.proofs.rule_5_keys.check_keys.Given as goal

abbrev pub invariant-loop-i : goal.invariant-loop-i
invariant-loop-i g l = record {
  reads : OnlyReads (g.F.Flash.state l.initial.flash) l.i (g.F.Flash.state l.flash);
  room : length l.buf.bytes ≡ (shape_of l.ring).size;
  last : IsTrue (g.F.Flash.state l.initial.flash).media.tells → l.last ≡ last_key (layout_of l.schema) (page_at (g.F.Flash.state l.initial.flash)) (shape_of l.ring) l.m l.i;
  rise : IsTrue (g.F.Flash.state l.initial.flash).media.tells → AllBelow (Rises (layout_of l.schema) (page_at (g.F.Flash.state l.initial.flash)) (shape_of l.ring) l.m) l.i;
}
