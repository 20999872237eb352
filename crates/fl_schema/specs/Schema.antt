-- What clauses see of a schema, of the kind of its rows and of a row.
use Rattle.std.specs.Prelude.{ℕ, List}
use Rattle.fl_model.specs.Record.{RowLayout}
use Rattle.fl_model.specs.Row.{Row, row_in}
use Rattle.fl_schema.specs.declared.column.ColumnType.{ColumnType}
use Rattle.fl_schema.specs.declared.schema.Schema.{Schema}
use Rattle.fl_schema.specs.declared.row.RowKind.{RowKind}
use Rattle.fl_schema.specs.declared.row.RowRef.{RowRef}
use Rattle.fl_schema.specs.Form.{types_in, layout_with}

abbrev pub types_of : {COLS : ℕ} → Schema COLS → List ColumnType
types_of schema = types_in schema.columns.items

-- the layout of its rows
abbrev pub layout_of : {COLS : ℕ} → Schema COLS → RowLayout
layout_of schema = layout_with schema.key (types_of schema) schema.blobs

abbrev pub kind_layout : RowKind → RowLayout
kind_layout kind = layout_with kind.key (types_in kind.columns.now) kind.blobs

abbrev pub layout_of_row : RowRef → RowLayout
layout_of_row row = kind_layout row.kind

abbrev pub bytes_of : RowRef → List ℕ
bytes_of row = row.bytes.now

-- the row that the bytes are
abbrev pub row_of : RowRef → Row
row_of row = row_in (layout_of_row row) (bytes_of row)
