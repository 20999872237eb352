use Rattle.std.proofs.Common.{◌≡◌, ℕ, ◌-◌, ◌<◌, ◌≤◌, Some}
use Rattle.std.specs.List.{slice_get}
use Rattle.fl_find.specs.Rows.{RowsRise}
use Rattle.fl_model.specs.Row.{Row}
use Rattle.fl_table.specs.Look.{buffered_rows}
use Rattle.fl_table.specs.Memory.{pending_in}
use Rattle.fl_table.proofs.table.Table.pending_below.Given as goal

abbrev pub invariant-loop-low : goal.invariant-loop-low
invariant-loop-low g l = record {
  order : l.low ≤ l.high;
  within : l.high ≤ pending_in l.self;
  below : RowsRise (buffered_rows l.self) → (i : ℕ) (row : Row) → i < l.low → slice_get (buffered_rows l.self) i ≡ Some row → row.key < l.key;
  at_least : RowsRise (buffered_rows l.self) → (i : ℕ) (row : Row) → l.high ≤ i → slice_get (buffered_rows l.self) i ≡ Some row → l.key ≤ row.key;
}

abbrev pub decreases-loop-low : goal.decreases-loop-low
decreases-loop-low g l = l.high - l.low
