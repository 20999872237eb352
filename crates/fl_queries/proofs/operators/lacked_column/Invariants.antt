use Rattle.std.proofs.Common.{◌≡◌, drop}
use Rattle.fl_table.specs.Look.{layout_in}
use Rattle.fl_queries.specs.Asked.{lacked_column}
use Rattle.fl_queries.proofs.operators.lacked_column.Given as goal

abbrev pub invariant-loop-column : goal.invariant-loop-column
invariant-loop-column l = lacked_column (layout_in l.table) l.columns ≡ lacked_column (layout_in l.table) (drop l.column-index l.columns)
