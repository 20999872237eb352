-- The rows that a page writer stands for.
use Rattle.std.specs.Prelude.{◌≡◌, ◌+◌, ◌-◌, ◌*◌, List, ◌++◌, length, drop, replicate}
use Rattle.std.specs.List.{flat_map, AllByRecursion}
use Rattle.fl_model.specs.Record.{RowLayout, layout_len}
use Rattle.fl_model.specs.Row.{Row, IsStorable, bytes_of_row}
use Rattle.fl_page.specs.WriterState.{WriterState}

-- behind 16 bytes of any header stand these rows, and the bytes behind them are blank
pub record Gathers (layout : RowLayout) (rows : List Row) (writer : WriterState) : Type 0 where
  pub count : writer.count ≡ length rows
  pub end : writer.end ≡ 16 + length rows * layout_len layout
  pub bytes : drop 16 writer.body ≡ flat_map (bytes_of_row layout) rows ++ replicate (length writer.body - writer.end) 255
  pub storable : AllByRecursion (IsStorable layout) rows
