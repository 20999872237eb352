use Rattle.std.proofs.Common.{◌≡◌, length, IsTrue}
use Rattle.fl_flash.specs.Flash.{page_at}
use Rattle.fl_frame.specs.Reads.{OnlyReads}
use Rattle.fl_ring.specs.Place.{shape_of}
use Rattle.fl_rules.specs.Claims.{AllBelow}
use Rattle.fl_rules.specs.Bodies.{HasBody}
use Rattle.fl_rules.proofs.rule_4_body.first_unformed.Given as goal

abbrev pub invariant-loop-i : goal.invariant-loop-i
invariant-loop-i g l = record {
  reads : OnlyReads (g.F.Flash.state l.initial.flash) l.i (g.F.Flash.state l.flash);
  room : length l.buf.bytes ≡ (shape_of l.ring).size;
  formed : IsTrue (g.F.Flash.state l.initial.flash).media.tells → AllBelow (HasBody (g.B.Form.holds l.form) (page_at (g.F.Flash.state l.initial.flash)) (shape_of l.ring) l.n) l.i;
}
