use Rattle.std.proofs.Common.{◌≡◌, ◌+◌, ◌*◌, ◌≤◌, map, take}
use Rattle.fl_model.specs.Record.{columns_len}
use Rattle.fl_schema.specs.Form.{key_width}
use Rattle.fl_schema.specs.Types.{column_of}
use Rattle.fl_plan.proofs.table_config.TableConfig.row_len.Given as goal

abbrev pub invariant-loop-column : goal.invariant-loop-column
invariant-loop-column l = record {
  sum : l.len ≡ key_width l.self.key + columns_len (map column_of (take l.column-index l.column-items));
  short : l.len ≤ 8 + 8 * l.column-index;
}
