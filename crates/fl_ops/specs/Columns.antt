-- Rows as the operators of the model see them, and their columns.
use Rattle.std.specs.Prelude.{ℕ, ◌≤◌, Bool, ℤ, None, List, length, map}
use Rattle.fl_base.specs.declared.types.Op.{Op}
use Rattle.fl_model.specs.Record.{Record, RowLayout}
use Rattle.fl_model.specs.Row.{Row}
use Rattle.fl_model.specs.Operators.{column_of, compares}

-- the record of a row, without the bytes of its blob, which no operator reads
abbrev pub record_of : Row → Record
record_of row = record { key = row.key; values = row.values; blob = None }

abbrev pub records_of : List Row → List Record
records_of rows = map record_of rows

-- column 0 is the key, and the values follow
abbrev pub HasColumn : RowLayout → ℕ → Type 0
HasColumn layout column = column ≤ length layout.columns

-- a column compared with a value
pub record Comparison : Type 0 where
  pub column : ℕ
  pub op : Op
  pub value : ℤ

-- the row passes it
abbrev pub row_passes : Comparison → Row → Bool
row_passes comparison row = compares comparison.op (column_of (record_of row) comparison.column) comparison.value
