use Rattle.std.proofs.Common.{◌≡◌, length}
use Rattle.fl_flash.specs.Flash.{Stays}
use Rattle.fl_table.specs.Memory.{LiesOn}
use Rattle.fl_storage_tests.proofs.tables.steps.first_wrong.Given as goal

abbrev pub invariant-loop-i : goal.invariant-loop-i
invariant-loop-i g l = record {
  goes : Stays (g.F.Flash.state l.initial.flash) (g.F.Flash.state l.flash);
  lies : LiesOn l.store.table (g.F.Flash.state l.flash);
  room : length l.store.buf.bytes ≡ length l.initial.store.buf.bytes;
}
