use Rattle.std.proofs.Common.{◌≡◌, length}
use Rattle.fl_flash.specs.Flash.{Stays}
use Rattle.fl_rlc.specs.Table.{LiesOn}
use Rattle.fl_storage_tests.proofs.logged_tables.first_wrong.Given as goal

abbrev pub invariant-loop-i : goal.invariant-loop-i
invariant-loop-i g l = record {
  goes : Stays (g.F.Flash.state l.initial.flash) (g.F.Flash.state l.flash);
  lies : LiesOn l.store.table (g.F.Flash.state l.flash);
  room : length l.store.buf.bytes ≡ length l.initial.store.buf.bytes;
}
