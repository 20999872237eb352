use Rattle.std.proofs.Common.{◌≡◌, length}
use Rattle.fl_table.specs.Memory.{LiesOn}
use Rattle.fl_storage_tests.proofs.cursors.indexed.fill.Given as goal

abbrev pub invariant-loop-key : goal.invariant-loop-key
invariant-loop-key g l = record {
  geometry : (g.F.Flash.state l.flash).geometry ≡ (g.F.Flash.state l.fn.flash).geometry;
  lies : LiesOn l.store.table (g.F.Flash.state l.flash);
  rows : length l.store.rows.bytes ≡ length l.fn.store.rows.bytes;
  index : length l.store.index.bytes ≡ length l.fn.store.index.bytes;
}
