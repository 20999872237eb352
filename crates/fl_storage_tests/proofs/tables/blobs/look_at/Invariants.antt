use Rattle.fl_flash.specs.Flash.{Stays}
use Rattle.fl_table.specs.Memory.{LiesOn}
use Rattle.fl_var.specs.Memory as memory
use Rattle.fl_var.specs.Reading.{data_of}
use Rattle.fl_storage_tests.proofs.tables.blobs.look_at.Given as goal

abbrev pub invariant-loop : goal.invariant-loop
invariant-loop g l = record {
  goes : Stays (g.F.Flash.state l.initial.flash) (g.F.Flash.state l.flash);
  lies : LiesOn l.table (g.F.Flash.state l.flash);
  held : memory.LiesOn (data_of l.reader) (g.F.Flash.state l.flash);
}
