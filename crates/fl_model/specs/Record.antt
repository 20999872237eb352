-- A record of a time series, the columns that it fits, and the table that it belongs to.
use Rattle.std.specs.Prelude.{ℕ, ◌+◌, ◌-◌, ◌*◌, ◌/◌, ◌^◌, Bool, ◌&&◌, nat_lt, ℤ, pos, neg_ℤ, int_le, Option, Some, None, List, [], ◌∷◌, sum_by, if◌then◌else◌, true, ◌==◌, false}
use Rattle.fl_base.specs.declared.types.Geometry.{Geometry}

-- a record: its key, its values in the order of the columns, and its blob, if it has one
pub record Record : Type 0 where
  pub key : ℕ
  pub values : List ℤ
  pub blob : Option (List ℕ)

-- a column of whole numbers of so many bytes
pub record Column : Type 0 where
  pub width : ℕ
  pub signed : Bool

-- the least and the greatest number of a column
abbrev pub least : Column → ℤ
least column = if column.signed then neg_ℤ (pos (2 ^ (8 * column.width - 1))) else pos 0

abbrev pub greatest : Column → ℤ
greatest column = if column.signed then pos (2 ^ (8 * column.width - 1) - 1) else pos (2 ^ (8 * column.width) - 1)

abbrev pub fits : Column → ℤ → Bool
fits column value = int_le (least column) value && int_le value (greatest column)

-- a table as it is configured; the blocks of a ring are 0 where it has no such ring, and `bits` is 0 where it has no bitmaps;
-- `full_index` says that an index page tells more of a data page than its bitmap
pub record Plan : Type 0 where
  pub geometry : Geometry
  pub name : List ℕ
  pub key_bytes : ℕ
  pub columns : List Column
  pub data_blocks : ℕ
  pub index_blocks : ℕ
  pub var_blocks : ℕ
  -- the ring in which each put seals the pending rows
  pub log_blocks : ℕ
  pub bits : ℕ
  pub base : ℤ
  pub width : ℕ
  pub error : ℕ
  pub blob_limit : ℕ
  pub full_index : Bool

abbrev pub has_index : Plan → Bool
has_index plan = nat_lt 0 plan.index_blocks

abbrev pub has_var : Plan → Bool
has_var plan = nat_lt 0 plan.var_blocks

abbrev pub has_log : Plan → Bool
has_log plan = nat_lt 0 plan.log_blocks

-- the form of a table's rows: how many bytes a key has, the columns, and whether a row can refer to a blob
pub record RowLayout : Type 0 where
  pub key_bytes : ℕ
  pub columns : List Column
  pub blobs : Bool

abbrev pub row_layout : Plan → RowLayout
row_layout plan = record { key_bytes = plan.key_bytes; columns = plan.columns; blobs = has_var plan }

-- the bytes of all columns
abbrev pub columns_len : List Column → ℕ
columns_len columns = sum_by (λ column. column.width) columns

-- the bytes of a row: its key, its values, and where it can refer to a blob a reference of ten bytes
abbrev pub layout_len : RowLayout → ℕ
layout_len layout = layout.key_bytes + columns_len layout.columns + (if layout.blobs then 10 else 0)

abbrev pub row_len : Plan → ℕ
row_len plan = layout_len (row_layout plan)

-- how many rows a data page holds
abbrev pub rows_per_page : Plan → ℕ
rows_per_page plan = (plan.geometry.page - 24) / row_len plan

-- the bytes of an index entry: a bitmap, and in a full one a first key, a count of rows and where blobs end
abbrev pub entry_len : Plan → ℕ
entry_len plan = plan.bits / 8 + (if plan.full_index then 14 else 0)

-- how many entries an index page holds
abbrev pub entries_per_page : Plan → ℕ
entries_per_page plan = (plan.geometry.page - 24) / entry_len plan

-- how many bytes of content a variable-data page holds
abbrev pub content_per_page : Plan → ℕ
content_per_page plan = plan.geometry.page - 16

-- the greatest key that a row can hold
abbrev pub greatest_key : RowLayout → ℕ
greatest_key layout = 2 ^ (8 * layout.key_bytes) - 1

abbrev pub key_limit : Plan → ℕ
key_limit plan = greatest_key (row_layout plan)

-- the number of the first column, from 1 on, that its value doesn't fit
abbrev pub first_misfit : ℕ → List Column → List ℤ → Option ℕ
first_misfit n [] values = None
first_misfit n (column ∷ columns) [] = None
first_misfit n (column ∷ columns) (value ∷ values) = if fits column value then first_misfit (n + 1) columns values else Some n

-- what was configured; `knots` is how many knots a spline keeps
pub record Config : Type 0 where
  pub geometry : Geometry
  pub plans : List Plan
  pub knots : ℕ

-- two texts are one
abbrev pub bytes_equal : List ℕ → List ℕ → Bool
bytes_equal [] [] = true
bytes_equal (a ∷ as') (b ∷ bs) = if a == b then bytes_equal as' bs else false
bytes_equal [] (b ∷ bs) = false
bytes_equal (a ∷ as') [] = false

-- the blocks of a table
abbrev pub blocks_of : Plan → ℕ
blocks_of plan = plan.data_blocks + plan.index_blocks + plan.var_blocks + plan.log_blocks
