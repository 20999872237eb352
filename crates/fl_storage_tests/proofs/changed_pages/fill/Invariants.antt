use Rattle.std.proofs.Common.{◌≡◌, length}
use Rattle.fl_table.specs.Memory.{LiesOn}
use Rattle.fl_storage_tests.proofs.changed_pages.fill.Given as goal

abbrev pub invariant-loop-before : goal.invariant-loop-before
invariant-loop-before g l = record {
  geometry : (g.F.Flash.state l.flash).geometry ≡ (g.F.Flash.state l.initial.flash).geometry;
  blocks : (g.F.Flash.state l.flash).blocks ≡ (g.F.Flash.state l.initial.flash).blocks;
  lies : LiesOn l.table (g.F.Flash.state l.flash);
  room : length l.buf.bytes ≡ length l.initial.buf.bytes;
}
