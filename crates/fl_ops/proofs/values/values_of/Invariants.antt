use Rattle.std.proofs.Common.{◌≡◌, take}
use Rattle.fl_schema.specs.Schema.{row_of}
use Rattle.fl_ops.proofs.values.values_of.Given as goal

abbrev pub invariant-loop-i : goal.invariant-loop-i
invariant-loop-i l = l.values.items ≡ take l.i (row_of l.fn.row).values
