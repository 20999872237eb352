use Rattle.std.proofs.Common.{◌≡◌, length}
use Rattle.fl_table.specs.Memory.{LiesOn}
use Rattle.fl_storage_tests.proofs.cursors.answered.Given as goal

abbrev pub invariant-loop-i : goal.invariant-loop-i
invariant-loop-i g l = record {
  geometry : (g.F.Flash.state l.flash).geometry ≡ (g.F.Flash.state l.initial.flash).geometry;
  lies : LiesOn l.store.table (g.F.Flash.state l.flash);
  rows : length l.store.rows.bytes ≡ length l.initial.store.rows.bytes;
  index : length l.store.index.bytes ≡ length l.initial.store.index.bytes;
}
