-- The bytes of a row, both ways. All numbers stand with their low bytes first.
use Rattle.std.specs.Prelude.{◌≡◌, ℕ, ◌+◌, ◌-◌, ◌*◌, ◌^◌, ◌<◌, ◌≤◌, nat_lt, ◌==◌, ℤ, pos, negsuc, ◌-ℤ◌, Option, Some, None, option_map, IfSome, List, [], ◌∷◌, ◌++◌, length, take, drop, replicate, IsTrue, if◌then◌else◌}
use Rattle.std.specs.List.{list_all}
use Rattle.std.specs.Int.{bytes_low_first}
use Rattle.fl_base.specs.declared.types.BlobRef.{BlobRef}
use Rattle.fl_model.specs.Record.{Column, RowLayout, columns_len, first_misfit, greatest_key}
use Rattle.fl_model.specs.Table.{Entry}

-- a row as it is stored: the bytes of its blob stand elsewhere
pub record Row : Type 0 where
  pub key : ℕ
  pub values : List ℤ
  pub blob : Option BlobRef

-- the row of an entry
abbrev pub stored_row : Entry → Row
stored_row entry = record {
  key = entry.kept.key;
  values = entry.kept.values;
  blob = option_map (λ bytes. record { page = entry.page; offset = entry.offset; length = length bytes }) entry.kept.blob;
}

-- ---- writing

-- a number in so many bytes
abbrev pub le : ℕ → ℕ → List ℕ
le count n = bytes_low_first 0 count n

-- a value in the bytes of its column, as two's complement
abbrev pub value_bytes : Column → ℤ → List ℕ
value_bytes column (pos n) = le column.width n
value_bytes column (negsuc n) = le column.width (2 ^ (8 * column.width) - 1 - n)

abbrev pub values_bytes : List Column → List ℤ → List ℕ
values_bytes [] values = []
values_bytes (column ∷ columns) [] = []
values_bytes (column ∷ columns) (value ∷ values) = value_bytes column value ++ values_bytes columns values

-- where a blob starts and how long it is; ten bytes FF where there is none
abbrev pub reference_bytes : Option BlobRef → List ℕ
reference_bytes None = replicate 10 255
reference_bytes (Some blob) = le 4 blob.page ++ le 2 blob.offset ++ le 4 blob.length

abbrev pub bytes_of_row : RowLayout → Row → List ℕ
bytes_of_row layout row =
    le layout.key_bytes row.key ++ values_bytes layout.columns row.values ++ (if layout.blobs then reference_bytes row.blob else [])

-- a reference stands in a row that can have one, and isn't the ten bytes that stand for none
abbrev pub FitsReference : RowLayout → BlobRef → Type 0
FitsReference layout blob =
    IsTrue layout.blobs × (blob.page ≡ 4294967295 → blob.offset ≡ 65535 → blob.length ≡ 4294967295 → ⊥)

-- the numbers of a reference fit their bytes
abbrev pub FitsBytes : BlobRef → Type 0
FitsBytes blob = (blob.page < 2 ^ 32) × (blob.offset < 2 ^ 16) × (blob.length < 2 ^ 32)

-- a row that fits its layout
pub record FitsRow (layout : RowLayout) (row : Row) : Type 0 where
  pub key : row.key ≤ greatest_key layout
  pub as_many : length row.values ≡ length layout.columns
  pub values : first_misfit 1 layout.columns row.values ≡ None
  pub blob : IfSome row.blob (FitsReference layout)

-- a row that its bytes tell
pub record IsStorable (layout : RowLayout) (row : Row) : Type 0 where
  pub fits : FitsRow layout row
  pub bytes : IfSome row.blob FitsBytes

-- ---- reading

-- the number that bytes are
abbrev pub number_of : List ℕ → ℕ
number_of [] = 0
number_of (byte ∷ bytes) = byte + 256 * number_of bytes

-- a number of so many bytes that stands for a signed one, as two's complement
abbrev pub signed_number : ℕ → ℕ → ℤ
signed_number width n = if nat_lt n (2 ^ (8 * width - 1)) then pos n else pos n -ℤ pos (2 ^ (8 * width))

-- the value that the bytes of a column are
abbrev pub value_in : Column → List ℕ → ℤ
value_in column bytes =
    if column.signed then signed_number column.width (number_of bytes) else pos (number_of bytes)

abbrev pub values_in : List Column → List ℕ → List ℤ
values_in [] bytes = []
values_in (column ∷ columns) bytes =
    value_in column (take column.width bytes) ∷ values_in columns (drop column.width bytes)

abbrev pub reference_in : List ℕ → Option BlobRef
reference_in bytes =
    if list_all (λ byte. byte == 255) (take 10 bytes) then None
    else Some record {
      page = number_of (take 4 bytes);
      offset = number_of (take 2 (drop 4 bytes));
      length = number_of (take 4 (drop 6 bytes));
    }

-- the row that bytes are
abbrev pub row_in : RowLayout → List ℕ → Row
row_in layout bytes = record {
  key = number_of (take layout.key_bytes bytes);
  values = values_in layout.columns (drop layout.key_bytes bytes);
  blob = if layout.blobs then reference_in (drop (layout.key_bytes + columns_len layout.columns) bytes) else None;
}
