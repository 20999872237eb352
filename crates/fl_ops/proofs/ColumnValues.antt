-- The column of a row that has it.
use Rattle.std.proofs.Common.{ℕ, zero, suc, ◌≡◌, ◌<◌, ◌-◌, ℤ, Some, arith, slice_get}
use Rattle.std.proofs.lemmas.Grind.{common_steps}
use Rattle.fl_model.specs.Row.{Row}
use Rattle.fl_model.specs.Operators.{column_of}
use Rattle.fl_ops.specs.Columns.{record_of}

pub column_of-value : (row : Row) (column : ℕ) (value : ℤ) → 0 < column → slice_get row.values (column - 1) ≡ Some value → column_of (record_of row) column ≡ value
column_of-value row zero value some is = absurd (omega arith)
column_of-value row (suc n) value some is = grind (arith, common_steps)

pub ruleset column_values = (column_of-value)
