use Rattle.std.proofs.Common.{◌≡◌, true}
use Rattle.fl_var.specs.Memory.{is_mounted, LiesOn}
use Rattle.fl_storage_tests.proofs.var_data.are_placed.Given as goal

abbrev pub invariant-loop-len : goal.invariant-loop-len
invariant-loop-len g l = LiesOn l.var (g.F.Flash.state l.flash) × (is_mounted l.var ≡ true)
