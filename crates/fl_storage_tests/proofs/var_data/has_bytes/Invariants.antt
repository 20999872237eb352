use Rattle.std.proofs.Common.{◌≡◌}
use Rattle.fl_var.specs.Memory.{LiesOn}
use Rattle.fl_var.specs.Reading.{data_of}
use Rattle.fl_storage_tests.proofs.var_data.has_bytes.Given as goal

abbrev pub invariant-loop : goal.invariant-loop
invariant-loop g l = LiesOn l.var (g.F.Flash.state l.flash) × (data_of l.reader ≡ l.var)
