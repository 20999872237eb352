-- Why the configuration of a table is refused, in the words of the configuration's lines.
use Rattle.std.specs.Prelude.{◌≡◌, ℕ, Result, Ok, Err, IsSomeAnd, ◌-◌, ◌*◌, Bool, false, not, ◌||◌, ◌&&◌, nat_lt, ◌==◌, is_some, is_none, Option, Some, None, List, [], ◌∷◌, ◌++◌, length, pos, if◌then◌else◌}
use Rattle.fl_base.specs.declared.types.Geometry.{Geometry}
use Rattle.fl_base.specs.declared.types.RingPlace.{RingPlace}
use Rattle.fl_model.specs.Record.{Plan, row_len}
use Rattle.fl_words.specs.Config as words
use Rattle.fl_words.specs.Config.{ConfigFault, first_fault, device_faults, bad_blob_limit, too_large}
use Rattle.fl_plan.specs.declared.refusal.ConfigRefusal.{ConfigRefusal}
use Rattle.fl_plan.specs.declared.refusal.ConfigRefusal.TheVariants.{DeviceTwice, TableFirst, PageSize, BlockSize, TooManyTables, NameTaken, KeyWidth, ColumnType, ColumnCount, DataBlocks, IndexBlocks, VarBlocks, Bits, Width, ErrorBound, BlobLimit, RowTooLong, DeviceTooLarge, Format, LogBlocks, LogVar, NoMemory}
use Rattle.fl_plan.specs.declared.table_config.TableConfig.{TableConfig}
use Rattle.fl_plan.specs.Plan.{Label, blocks_in, plan_of_table, with_log}

-- the refusal of a line that it is; memory is none
abbrev pub fault_of : ConfigRefusal → Option ConfigFault
fault_of DeviceTwice = Some words.DeviceTwice
fault_of TableFirst = Some words.TableFirst
fault_of PageSize = Some words.PageSize
fault_of BlockSize = Some words.BlockSize
fault_of TooManyTables = Some words.TooManyTables
fault_of NameTaken = Some words.NameTaken
fault_of KeyWidth = Some words.KeyWidth
fault_of ColumnType = Some words.ColumnType
fault_of ColumnCount = Some words.ColumnCount
fault_of DataBlocks = Some words.DataBlocks
fault_of IndexBlocks = Some words.IndexBlocks
fault_of VarBlocks = Some words.VarBlocks
fault_of Bits = Some words.Bits
fault_of Width = Some words.Width
fault_of ErrorBound = Some words.ErrorBound
fault_of BlobLimit = Some words.BlobLimit
fault_of RowTooLong = Some words.RowTooLong
fault_of DeviceTooLarge = Some words.DeviceTooLarge
fault_of Format = Some words.Format
fault_of LogBlocks = Some words.LogBlocks
fault_of LogVar = Some words.LogVar
fault_of NoMemory = None

-- the greatest length of a blob isn't one that a ring of so many blocks, or none, can keep
abbrev pub blobs_misfit : Geometry → ℕ → ℕ → Bool
blobs_misfit geometry blocks limit =
    if blocks == 0 then not (limit == 0)
    else (limit == 0) || nat_lt 1500 limit || nat_lt ((geometry.page - 16) * ((blocks - 1) * geometry.block - 2)) limit

-- so many blocks are too many for a device
abbrev pub pages_misfit : Geometry → ℕ → Bool
pages_misfit geometry blocks =
    let pages = blocks * geometry.block in
    nat_lt 65536 pages || nat_lt 67108864 (pages * geometry.page)

-- a ring that is there has 3 to 16,384 blocks
abbrev pub is_bad_ring : Option RingPlace → Bool
is_bad_ring None = false
is_bad_ring (Some place) = nat_lt place.blocks 3 || nat_lt 16384 place.blocks

-- the tests of one table's configuration, in order: its fields
abbrev pub field_faults : TableConfig → List (Bool × ConfigFault)
field_faults config =
    device_faults config.geometry
    ++ (length config.columns.items == 0, words.ColumnType)
    ∷ (nat_lt config.rows.blocks 3 || nat_lt 16384 config.rows.blocks, words.DataBlocks)
    ∷ (is_bad_ring config.index, words.IndexBlocks)
    ∷ (is_bad_ring config.var, words.VarBlocks)
    ∷ (is_some config.index && is_none config.buckets, words.Bits)
    ∷ (nat_lt 255 config.error, words.ErrorBound) ∷ []

-- .. what its pages and its ring of variable data have room for
abbrev pub room_faults : Plan → List (Bool × ConfigFault)
room_faults plan =
    (bad_blob_limit plan, words.BlobLimit)
    ∷ (nat_lt (plan.geometry.page - 24) (row_len plan), words.RowTooLong) ∷ []

abbrev pub nameless : Label
nameless = record { name = []; base = pos 0; width = 0 }

-- .. the size of all rings with that of its log, whether full index entries have an index, and the blocks of the log, which no
-- table with variable data has
abbrev pub ring_faults : Option RingPlace → TableConfig → List (Bool × ConfigFault)
ring_faults log config =
    let plan = with_log (blocks_in log) (plan_of_table nameless config) in
    (too_large config.geometry (plan ∷ []), words.DeviceTooLarge)
    ∷ (plan.full_index && (plan.index_blocks == 0), words.Format)
    ∷ (is_bad_ring log, words.LogBlocks)
    ∷ (is_some log && is_some config.var, words.LogVar) ∷ []

-- the first that applies of a table with a log at this place, or with none
abbrev pub config_fault_with : Option RingPlace → TableConfig → Option ConfigFault
config_fault_with log config = first_fault (field_faults config ++ room_faults (plan_of_table nameless config) ++ ring_faults log config)

abbrev pub config_fault : TableConfig → Option ConfigFault
config_fault config = config_fault_with None config

-- a result tells a fault of a line, or that there is none; it is no matter of memory
abbrev pub Tells : {A : Type 0} → Result A ConfigRefusal → Option ConfigFault → Type 0
Tells (Ok value) fault = fault ≡ None
Tells (Err refusal) fault = IsSomeAnd (fault_of refusal) (λ told. fault ≡ Some told)
