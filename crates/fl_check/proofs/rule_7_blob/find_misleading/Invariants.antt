use Rattle.std.proofs.Common.{◌≡◌, length, IsTrue}
use Rattle.fl_flash.specs.Flash.{page_at}
use Rattle.fl_frame.specs.Reads.{OnlyReads}
use Rattle.fl_ring.specs.Place.{shape_of}
use Rattle.fl_schema.specs.Schema.{layout_of}
use Rattle.fl_rules.specs.Claims.{AllBelow}
use Rattle.fl_rules.specs.Reaches.{AreMeasured}
use Rattle.fl_rules.specs.References.{HasKeptRows, PageLeads}
use Rattle.fl_check.proofs.rule_7_blob.find_misleading.Given as goal

abbrev pub invariant-loop-i : goal.invariant-loop-i
invariant-loop-i g l = record {
  reads : OnlyReads (g.F.Flash.state l.initial.flash) l.i (g.F.Flash.state l.flash);
  room : length l.buf.bytes ≡ (shape_of l.ring).size;
  lead : IsTrue (g.F.Flash.state l.initial.flash).media.tells →
      AllBelow (HasKeptRows (layout_of l.schema) (page_at (g.F.Flash.state l.initial.flash)) (shape_of l.ring) l.m) l.m.kept →
      AreMeasured (page_at (g.F.Flash.state l.initial.flash)) (shape_of l.blobs.ring.now) l.blobs.numbering.marks.at l.blobs.numbering.marks.kept l.blobs.reaches.now →
      AllBelow (PageLeads (layout_of l.schema) (page_at (g.F.Flash.state l.initial.flash)) (shape_of l.ring) l.m (shape_of l.blobs.ring.now) l.blobs.numbering) l.i;
}
