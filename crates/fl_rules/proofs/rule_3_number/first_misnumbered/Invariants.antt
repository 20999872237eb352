use Rattle.std.proofs.Common.{◌≡◌, length, IsTrue}
use Rattle.fl_flash.specs.Flash.{page_at}
use Rattle.fl_frame.specs.Reads.{OnlyReads}
use Rattle.fl_ring.specs.Place.{shape_of}
use Rattle.fl_rules.specs.Claims.{AllBelow}
use Rattle.fl_rules.specs.Numbers.{HasItsNumber}
use Rattle.fl_rules.proofs.rule_3_number.first_misnumbered.Given as goal

abbrev pub invariant-loop-i : goal.invariant-loop-i
invariant-loop-i g l = record {
  reads : OnlyReads (g.F.Flash.state l.initial.flash) l.i (g.F.Flash.state l.flash);
  room : length l.buf.bytes ≡ (shape_of l.ring).size;
  numbered : IsTrue (g.F.Flash.state l.initial.flash).media.tells → AllBelow (HasItsNumber (page_at (g.F.Flash.state l.initial.flash)) (shape_of l.ring) l.m l.next) l.i;
}
