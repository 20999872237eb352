-- The configuration that device and table lines make, or the refusal of one of them.
use Rattle.std.specs.Prelude.{ℕ, ◌-◌, ◌*◌, ◌%◌, Bool, true, false, not, ◌&&◌, ◌||◌, nat_lt, nat_le, ◌==◌, Option, Some, None, is_none, is_some, unwrap_or, Result, Ok, Err, List, [], ◌∷◌, ◌++◌, length, sum_by, codes, if◌then◌else◌}
use Rattle.std.specs.List.{slice_split, list_any}
use Rattle.fl_base.specs.declared.types.Geometry.{Geometry}
use Rattle.fl_model.specs.Record.{Column, Plan, row_len, content_per_page, Config, bytes_equal, blocks_of}
use Rattle.fl_words.specs.Command as command
use Rattle.fl_words.specs.Command.{Command, TableLine}

-- why a configuration line is refused
pub data ConfigFault : Type 0 where
  DeviceTwice TableFirst PageSize BlockSize TooManyTables NameTaken KeyWidth ColumnType ColumnCount : ConfigFault
  DataBlocks IndexBlocks VarBlocks Bits Width ErrorBound BlobLimit RowTooLong DeviceTooLarge : ConfigFault
  Format LogBlocks LogVar : ConfigFault

-- the configuration so far
pub record Lines : Type 0 where
  pub device : Option Geometry
  pub plans : List Plan

abbrev pub no_lines : Lines
no_lines = record { device = None; plans = [] }

-- a type of columns by its name
abbrev pub column_named : List ℕ → Option Column
column_named name =
    if bytes_equal name (codes "u8") then Some (record { width = 1; signed = false })
    else if bytes_equal name (codes "i8") then Some (record { width = 1; signed = true })
    else if bytes_equal name (codes "u16") then Some (record { width = 2; signed = false })
    else if bytes_equal name (codes "i16") then Some (record { width = 2; signed = true })
    else if bytes_equal name (codes "u32") then Some (record { width = 4; signed = false })
    else if bytes_equal name (codes "i32") then Some (record { width = 4; signed = true })
    else if bytes_equal name (codes "i64") then Some (record { width = 8; signed = true })
    else None

abbrev pub cons_column : Option Column → Option (List Column) → Option (List Column)
cons_column (Some column) (Some columns) = Some (column ∷ columns)
cons_column (Some column) None = None
cons_column None other = None

abbrev pub columns_named : List (List ℕ) → Option (List Column)
columns_named [] = Some []
columns_named (name ∷ names) = cons_column (column_named name) (columns_named names)

abbrev pub columns_in : List ℕ → Option (List Column)
columns_in word = columns_named (slice_split (λ byte. byte == 44) word)

-- a table line as a plan
abbrev pub plan_of : Geometry → TableLine → Plan
plan_of geometry line = record {
  geometry = geometry;
  name = line.name;
  key_bytes = line.key;
  columns = unwrap_or (columns_in line.columns) [];
  data_blocks = line.data_blocks;
  index_blocks = line.index_blocks;
  var_blocks = line.var_blocks;
  bits = line.bits;
  base = line.base;
  width = line.width;
  error = line.error;
  blob_limit = line.blob_limit;
  full_index = line.full_index;
  log_blocks = unwrap_or line.log_blocks 0;
}

abbrev pub is_odd_ring : ℕ → Bool
is_odd_ring blocks = (blocks == 1) || (blocks == 2) || nat_lt 16384 blocks

abbrev pub bad_log : Option ℕ → Bool
bad_log None = false
bad_log (Some blocks) = nat_lt blocks 3 || nat_lt 16384 blocks

abbrev pub bad_blob_limit : Plan → Bool
bad_blob_limit plan =
    if plan.var_blocks == 0 then not (plan.blob_limit == 0)
    else (plan.blob_limit == 0) || nat_lt 1500 plan.blob_limit
    || nat_lt (content_per_page plan * ((plan.var_blocks - 1) * plan.geometry.block - 2)) plan.blob_limit

abbrev pub too_large : Geometry → List Plan → Bool
too_large geometry plans =
    let pages = sum_by blocks_of plans * geometry.block in
    nat_lt 65536 pages || nat_lt 67108864 (pages * geometry.page)

-- the first fault that applies
abbrev pub first_fault : List (Bool × ConfigFault) → Option ConfigFault
first_fault [] = None
first_fault (test ∷ tests) = if test.0 then Some test.1 else first_fault tests

abbrev pub table_faults : Geometry → List Plan → TableLine → List (Bool × ConfigFault)
table_faults geometry plans line =
    let plan = plan_of geometry line in
    (nat_le 4 (length plans), TooManyTables)
    ∷ (list_any (λ p. bytes_equal p.name line.name) plans, NameTaken)
    ∷ (not ((line.key == 4) || (line.key == 8)), KeyWidth)
    ∷ (is_none (columns_in line.columns), ColumnType)
    ∷ (nat_lt 8 (length plan.columns), ColumnCount)
    ∷ (nat_lt line.data_blocks 3 || nat_lt 16384 line.data_blocks, DataBlocks)
    ∷ (is_odd_ring line.index_blocks, IndexBlocks)
    ∷ (is_odd_ring line.var_blocks, VarBlocks)
    ∷ (not ((line.bits == 0) || (line.bits == 8) || (line.bits == 16) || (line.bits == 64)) || ((line.bits == 0) && not (line.index_blocks == 0)), Bits)
    ∷ ((line.width == 0) || nat_lt 9223372036854775807 line.width, Width)
    ∷ (nat_lt 255 line.error, ErrorBound)
    ∷ (bad_blob_limit plan, BlobLimit)
    ∷ (nat_lt (geometry.page - 24) (row_len plan), RowTooLong)
    ∷ (too_large geometry (plans ++ plan ∷ []), DeviceTooLarge)
    ∷ (line.full_index && (line.index_blocks == 0), Format)
    ∷ (bad_log line.log_blocks, LogBlocks)
    ∷ (is_some line.log_blocks && not (line.var_blocks == 0), LogVar) ∷ []

abbrev pub device_faults : Geometry → List (Bool × ConfigFault)
device_faults geometry =
    (nat_lt geometry.page 64 || nat_lt 4096 geometry.page || not (geometry.page % 8 == 0), PageSize)
    ∷ (nat_lt geometry.block 2 || nat_lt 256 geometry.block, BlockSize) ∷ []

abbrev pub unless : Option ConfigFault → Lines → Result Lines ConfigFault
unless None lines = Ok lines
unless (Some fault) lines = Err fault

-- one more device line, or table line
abbrev pub with_device : Lines → Geometry → Option Geometry → Result Lines ConfigFault
with_device lines geometry (Some before) = Err DeviceTwice
with_device lines geometry None = unless (first_fault (device_faults geometry)) (record lines { device = Some geometry })

abbrev pub with_table_line : Lines → TableLine → Option Geometry → Result Lines ConfigFault
with_table_line lines line None = Err TableFirst
with_table_line lines line (Some geometry) =
    unless (first_fault (table_faults geometry lines.plans line)) (record lines { plans = lines.plans ++ plan_of geometry line ∷ [] })

-- the configuration after a line; other lines leave it
abbrev pub configured : Lines → Command → Result Lines ConfigFault
configured lines (command.Device page block) = with_device lines (record { page = page; block = block }) lines.device
configured lines (command.Table line) = with_table_line lines line lines.device
configured lines _ = Ok lines

-- a whole configuration: a device line and a table line at least
abbrev pub whole_of : ℕ → Option Geometry → List Plan → Option Config
whole_of knots None plans = None
whole_of knots (Some geometry) [] = None
whole_of knots (Some geometry) (plan ∷ plans) = Some (record { geometry = geometry; plans = plan ∷ plans; knots = knots })

abbrev pub whole : ℕ → Lines → Option Config
whole knots lines = whole_of knots lines.device lines.plans
