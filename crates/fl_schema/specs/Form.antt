-- The columns of a schema and their places in a row.
use Rattle.std.specs.Prelude.{◌≡◌, ℕ, ◌+◌, ◌<◌, Bool, List, length, map, take, slice_index_or}
use Rattle.fl_model.specs.Record.{Column, RowLayout, columns_len}
use Rattle.fl_schema.specs.declared.column.ColumnType.{ColumnType}
use Rattle.fl_schema.specs.declared.schema.KeyWidth.{KeyWidth}
use Rattle.fl_schema.specs.declared.schema.KeyWidth.TheVariants.{Four, Eight}
use Rattle.fl_schema.specs.declared.schema.PlacedColumn.{PlacedColumn}
use Rattle.fl_schema.specs.Types.{column_of}

-- in bytes
abbrev pub key_width : KeyWidth → ℕ
key_width Four = 4
key_width Eight = 8

abbrev pub types_in : List PlacedColumn → List ColumnType
types_in columns = map (λ column. column.of) columns

abbrev pub layout_with : KeyWidth → List ColumnType → Bool → RowLayout
layout_with key types blobs = record { key_bytes = key_width key; columns = map column_of types; blobs = blobs }

abbrev pub columns_in : List PlacedColumn → List Column
columns_in columns = map column_of (types_in columns)

-- each column stands behind the key and the columns before it
abbrev pub ArePlaced : KeyWidth → List PlacedColumn → Type 0
ArePlaced key columns = (i : ℕ) (default : PlacedColumn) → i < length columns →
    (slice_index_or columns i default).at ≡ key_width key + columns_len (columns_in (take i columns))
