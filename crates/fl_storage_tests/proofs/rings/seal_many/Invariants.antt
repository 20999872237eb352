use Rattle.std.proofs.Common.{◌≡◌}
use Rattle.fl_flash.specs.Flash.{Stays}
use Rattle.fl_ring.specs.Place.{shape_of, LiesOn}
use Rattle.fl_storage_tests.proofs.rings.seal_many.Given as goal

abbrev pub invariant-loop : goal.invariant-loop
invariant-loop g l = record {
  goes : Stays (g.F.Flash.state l.initial.flash) (g.F.Flash.state l.flash);
  lies : LiesOn l.ring (g.F.Flash.state l.flash);
  size : (shape_of l.ring).size ≡ 64;
}
