use Rattle.std.proofs.Common.{◌≡◌, true}
use Rattle.fl_index.specs.Memory.{is_running, LiesOn}
use Rattle.fl_storage_tests.proofs.indexes.push_all.Given as goal

abbrev pub invariant-loop-bitmap : goal.invariant-loop-bitmap
invariant-loop-bitmap g l = record {
  running : is_running l.index ≡ true;
  lies : LiesOn l.index (g.F.Flash.state l.flash);
  page : (g.F.Flash.state l.flash).geometry.page ≡ (g.F.Flash.state l.initial.flash).geometry.page;
}
