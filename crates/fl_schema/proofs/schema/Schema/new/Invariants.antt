use Rattle.std.proofs.Common.{◌≡◌, ◌+◌, ◌*◌, ◌≤◌, take, length}
use Rattle.fl_model.specs.Record.{columns_len}
use Rattle.fl_schema.specs.Form.{key_width, types_in, columns_in, ArePlaced}
use Rattle.fl_schema.proofs.schema.Schema.new.Given as goal

abbrev pub invariant-loop-column : goal.invariant-loop-column
invariant-loop-column g l = record {
  types : types_in l.placed.items ≡ take l.column-index l.columns;
  len : length l.placed.items ≡ l.column-index;
  row : l.row ≡ key_width l.key + columns_len (columns_in l.placed.items);
  small : l.row ≤ 8 + 8 * l.column-index;
  placed : ArePlaced l.key l.placed.items;
}
