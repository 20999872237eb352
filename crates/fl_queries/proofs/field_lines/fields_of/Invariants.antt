use Rattle.std.proofs.Common.{◌≡◌, take}
use Rattle.fl_ops.specs.Project.{input_of, columns_of, fields_of}
use Rattle.fl_queries.proofs.field_lines.fields_of.Given as goal

abbrev pub invariant-loop-i : goal.invariant-loop-i
invariant-loop-i g l = l.values.items ≡ take l.i (fields_of (columns_of l.fn.rows) (g.R.RowHere.present (input_of l.fn.rows)))
