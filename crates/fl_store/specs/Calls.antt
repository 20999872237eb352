-- How the calls of a store end.
use Rattle.std.specs.Prelude.{◌≡◌, ℕ, ◌<◌, Bool, true, false, IsTrue, Option, Some, None, option_map, unwrap_or, Result, Ok, Err, List, length, map, slice_get}
use Rattle.fl_base.specs.NameForm.{is_name}
use Rattle.fl_flash.specs.Buffer.{BufferState}
use Rattle.fl_flash.specs.Flash.{FlashState}
use Rattle.fl_flash.specs.declared.flash.FlashFault.{FlashFault}
use Rattle.fl_model.specs.Record.{Config, Plan, Record}
use Rattle.fl_model.specs.Puts.{TablePuts}
use Rattle.fl_model.specs.Spline.{is_pending_key}
use Rattle.fl_model.specs.Table as model
use Rattle.fl_model.specs.Table.{refusal_of, put_record, table_seals, flushed, lose}
use Rattle.fl_model.specs.Within.{with_table}
use Rattle.fl_model.specs.Work.{Device, Whole, PartProgress}
use Rattle.fl_page.specs.declared.fault.ReadFault.{ReadFault}
use Rattle.fl_page.specs.declared.fault.ReadFault.TheVariants as fault
use Rattle.fl_frame.specs.Device.{SameDevice}
use Rattle.fl_rlc.specs.Table.{table_in, is_running}
use Rattle.fl_table.specs.Finding.{FindsEntry, IsRowAt}
use Rattle.fl_table.specs.Look.{layout_in}
use Rattle.fl_parts.specs.Failing.{BySeals, FaultEnds}
use Rattle.fl_table.specs.declared.find.RowAt.{RowAt}
use Rattle.fl_table.specs.declared.faults.FlushFault.{FlushFault}
use Rattle.fl_table.specs.declared.faults.FlushFault.TheVariants as flush
use Rattle.fl_table.specs.declared.faults.PutRefusal.{PutRefusal}
use Rattle.fl_table.specs.declared.faults.PutRefusal.TheVariants as put
use Rattle.fl_store.specs.Store.{Holds}
use Rattle.fl_store.specs.Tables.{IsNamed}
use Rattle.fl_store.specs.declared.pages.Pages.{Pages}
use Rattle.fl_store.specs.declared.tables.Entry.{Entry}

-- both buffers have room for a page of so many bytes
pub record HavePage (pages : Pages) (size : ℕ) : Type 0 where
  pub rows : length pages.rows.bytes ≡ size
  pub index : length pages.index.bytes ≡ size

-- the first table with this name is at this place; a word that is no name names none
abbrev pub Finds : List Entry → List ℕ → Option ℕ → Type 0
Finds entries word (Some at) = (at < length entries) × IsNamed entries word at
Finds entries word None = IsTrue (is_name word) → (i : ℕ) (other : Entry) → slice_get entries i ≡ Some other → other.name ≡ word → ⊥

-- the flash with its power on
abbrev pub powered : FlashState → FlashState
powered f = record f { is_on = true }

-- the table at a place goes on
abbrev pub RunsAt : List Entry → ℕ → Type 0
RunsAt entries at = (entry : Entry) → slice_get entries at ≡ Some entry → is_running entry.table ≡ true

-- how many columns the rows of the table at a place have
abbrev pub columns_at : List Entry → ℕ → ℕ
columns_at entries at = unwrap_or (option_map (λ (entry : Entry). length (layout_in (table_in entry.table)).columns) (slice_get entries at)) 0

-- a table of the model and its plan, by its place
pub record Located (config : Config) (tables : List model.Table) (at : ℕ) (plan : Plan) (table : model.Table) : Type 0 where
  pub plan_is : slice_get config.plans at ≡ Some plan
  pub table_is : slice_get tables at ≡ Some table

-- The operations of a call on the table at a place were all done: the store holds this one there, and the others as they were.
pub record Finishes (config : Config) (tables : List model.Table) (at : ℕ) (Did : PartProgress model.Table → Type 0) (after : model.Table) (entries : List Entry) (new : FlashState) : Type 0 where
  pub now : PartProgress model.Table
  pub did : Did now
  pub whole : now.end ≡ Whole
  pub counts : SameDevice new now.device
  pub power : new.is_on ≡ true
  pub holds : Holds config entries new true (with_table at tables after)

-- One of them failed: the store holds what it left on the pages, without what was in memory, and is to be mounted again.
pub record Breaks (config : Config) (tables : List model.Table) (at : ℕ) (Did : PartProgress model.Table → Type 0) (fault : FlashFault) (entries : List Entry) (new : FlashState) : Type 0 where
  pub now : PartProgress model.Table
  pub did : Did now
  pub answer : FaultEnds now.end fault new
  pub counts : SameDevice new now.device
  pub holds : Holds config entries new false (map lose (with_table at tables now.state))

-- a put of a record into the table at a place, by what it answers
abbrev pub PutEnds : Config → List model.Table → ℕ → Plan → model.Table → Record → Bool → Device → Result (Unit {0}) PutRefusal → List Entry → FlashState → Type 0
PutEnds config tables at plan table item rose device (Ok done) entries new =
    (refusal_of plan table item ≡ None) × Finishes config tables at (TablePuts plan rose item device table) (put_record plan item table) entries new
PutEnds config tables at plan table item rose device (Err (put.Flash fault)) entries new =
    (refusal_of plan table item ≡ None) × Breaks config tables at (TablePuts plan rose item device table) fault entries new
PutEnds config tables at plan table item rose device (Err (put.Key last)) entries new = refusal_of plan table item ≡ Some (model.BadKey last)
PutEnds config tables at plan table item rose device (Err (put.Columns wanted)) entries new = refusal_of plan table item ≡ Some (model.BadColumns wanted)
PutEnds config tables at plan table item rose device (Err (put.Value column)) entries new = refusal_of plan table item ≡ Some (model.BadValue column)
PutEnds config tables at plan table item rose device (Err (put.Blob limit)) entries new = refusal_of plan table item ≡ Some (model.BadBlob limit)
PutEnds config tables at plan table item rose device (Err put.Spent) entries new = refusal_of plan table item ≡ Some model.Spent
PutEnds config tables at plan table item rose device (Err put.Stopped) entries new = ⊥

-- .. and a flush of it
abbrev pub FlushEnds : Config → List model.Table → ℕ → Plan → model.Table → Bool → Device → Result (Unit {0}) FlushFault → List Entry → FlashState → Type 0
FlushEnds config tables at plan table rose device (Ok done) entries new =
    Finishes config tables at (BySeals plan (table_seals plan table) table rose device) (flushed plan table) entries new
FlushEnds config tables at plan table rose device (Err (flush.Flash fault)) entries new =
    Breaks config tables at (BySeals plan (table_seals plan table) table rose device) fault entries new
FlushEnds config tables at plan table rose device (Err flush.Stopped) entries new = ⊥

-- a refusal that isn't a fault of the flash leaves all as it is
abbrev pub IsRefusedSame : List Entry → FlashState → PutRefusal → List Entry → FlashState → Type 0
IsRefusedSame old f (put.Flash fault) new g = Unit {0}
IsRefusedSame old f refusal new g = (new ≡ old) × (g ≡ f)

-- A lookup ends with the entry that has the key, or none where there is none, unless a read fails: no page is bad, and a pending key
-- needs no read.
abbrev pub GetEnds : Plan → model.Table → ℕ → BufferState → Result (Option RowAt) ReadFault → Type 0
GetEnds plan table key buf (Ok place) = FindsEntry plan table key buf place
GetEnds plan table key buf (Err (fault.Flash e)) = is_pending_key table key ≡ false
GetEnds plan table key buf (Err (fault.BadPage bad)) = ⊥

-- there is a row at this place of the table at a place
abbrev pub IsRowIn : List Entry → ℕ → BufferState → RowAt → Type 0
IsRowIn entries at buf place = (entry : Entry) → slice_get entries at ≡ Some entry → IsRowAt (table_in entry.table) buf place
