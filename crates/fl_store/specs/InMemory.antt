-- What the calls of a store leave of its tables in memory, whatever the flash holds.
use Rattle.std.specs.Prelude.{◌≡◌, ℕ, ◌≤◌, Bool, false, ◌&&◌, ◌||◌, not, None, Some, option_map, unwrap_or, List, slice_get}
use Rattle.fl_model.specs.Record.{Record}
use Rattle.fl_rlc.specs.Rows.{AreBegun, HaveLogged}
use Rattle.fl_rlc.specs.Table.{is_running, is_stopped, log_in, table_in}
use Rattle.fl_rlc.specs.declared.table.LoggedTable.{LoggedTable}
use Rattle.fl_table.specs.BlobAt.{has_blobs}
use Rattle.fl_table.specs.Look.{last_key_in, layout_in}
use Rattle.fl_table.specs.Memory.{pending_in}
use Rattle.fl_table.specs.Stored.{IsEmptied, Stores}
use Rattle.fl_store.specs.Calls.{columns_at}
use Rattle.fl_store.specs.Mounting.{AreSameNames, AreSamePlans}
use Rattle.fl_store.specs.declared.tables.Entry.{Entry}

-- whether the records of the table at a place may have blobs
abbrev pub has_blobs_at : List Entry → ℕ → Bool
has_blobs_at entries at = unwrap_or (option_map (λ (entry : Entry). has_blobs (table_in entry.table)) (slice_get entries at)) false

-- No table became another one: each has its name and its plan, and what was asked about them is still so.
pub record AreSameTables (old new : List Entry) : Type 0 where
  pub names : AreSameNames old new
  pub plans : AreSamePlans old new
  pub columns : (at : ℕ) → columns_at new at ≡ columns_at old at
  pub blobs : (at : ℕ) → has_blobs_at new at ≡ has_blobs_at old at

-- a table goes on, unless an operation failed in the call: then it is stopped
pub record GoesOn (breaks : Bool) (was now : LoggedTable 64 64) : Type 0 where
  pub running : is_running now ≡ (is_running was && not breaks)
  pub stopped : is_stopped now ≡ (breaks || is_stopped was)

-- what holds of the table at a place, before and after
abbrev pub Becomes : (LoggedTable 64 64 → LoggedTable 64 64 → Type 0) → List Entry → ℕ → List Entry → Type 0
Becomes P old at new = (was now : Entry) → slice_get old at ≡ Some was → slice_get new at ≡ Some now → P was.table now.table

-- A call of the table at a place leaves the others as they are, and it goes on, unless an operation failed, which `breaks` tells.
pub record LeavesOthers (breaks : Bool) (old : List Entry) (at : ℕ) (new : List Entry) : Type 0 where
  pub others : (i : ℕ) → (at ≡ i → ⊥) → slice_get new i ≡ slice_get old i
  pub own : Becomes (GoesOn breaks) old at new

-- The record is the last one, and waits: behind those that waited, or alone where their page was full, which was made; and the log
-- has it, where there is one.
pub record Takes (item : Record) (was now : LoggedTable 64 64) : Type 0 where
  pub last : last_key_in (table_in now) ≡ Some item.key
  pub stores : Stores (table_in was) item.key item.values item.blob (table_in now)
  pub logs : HaveLogged (layout_in (table_in was)) (record { key = item.key; values = item.values; blob = None }) (log_in was) (log_in now)

-- no record waits, and those that did have the next page; the last record is the one that it was
pub record Flushes (was now : LoggedTable 64 64) : Type 0 where
  pub none : pending_in (table_in now) ≡ 0
  pub last : last_key_in (table_in now) ≡ last_key_in (table_in was)
  pub seals : 1 ≤ pending_in (table_in was) → IsEmptied (table_in was) (table_in now)
  pub begins : 1 ≤ pending_in (table_in was) → AreBegun (log_in was) (log_in now)
