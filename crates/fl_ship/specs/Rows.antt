-- How a ship of rows ends, over the flash of the copy.
use Rattle.std.specs.Prelude.{◌≡◌, ℕ, ◌+◌, ◌≤◌, ◌<◌, Bool, true, false, IsTrue, Some, None, Result, Ok, Err, List, [], ◌∷◌, length, take, drop, slice_get, option_map, unwrap_or}
use Rattle.fl_flash.specs.Flash.{FlashState}
use Rattle.fl_flash.specs.declared.flash.FlashFault.{FlashFault}
use Rattle.fl_flash.specs.declared.flash.FlashFault.TheVariants as flash
use Rattle.fl_store.specs.Works.{FailsInFlush}
use Rattle.fl_store.specs.Works.{Works}
use Rattle.fl_model.specs.Record.{Record, Plan}
use Rattle.fl_model.specs.Puts.{TablePuts}
use Rattle.fl_model.specs.Row.{Row}
use Rattle.fl_model.specs.Ship.{KeepsOf, records_in}
use Rattle.fl_model.specs.ShipWork.{TableShips}
use Rattle.fl_model.specs.Table as model
use Rattle.fl_model.specs.Table.{RingName, DataRing, IndexRing, VarRing, LogRing, flushed, lose, refusal_of, spent_from, table_seals}
use Rattle.fl_model.specs.Work.{Device, PartEnd, PartProgress, Whole}
use Rattle.fl_page.specs.Causes.{IsCaused}
use Rattle.fl_frame.specs.Causes.{CausedBy}
use Rattle.fl_frame.specs.Device.{SameDevice}
use Rattle.fl_rlc.specs.Logged.{Rests, Stands}
use Rattle.fl_rlc.specs.Memory as log
use Rattle.fl_rlc.specs.Table.{log_in, table_in}
use Rattle.fl_rlc.specs.declared.table.LoggedTable.{LoggedTable}
use Rattle.fl_parts.specs.Bitmaps as bitmaps
use Rattle.fl_parts.specs.Blobs as variable
use Rattle.fl_parts.specs.Failing.{BySeals, FaultEnds}
use Rattle.fl_table.specs.BlobAt.{data_in}
use Rattle.fl_table.specs.Look.{index_in}
use Rattle.fl_table.specs.Memory.{next_in}
use Rattle.fl_table.specs.declared.faults.FlushFault.TheVariants as flush
use Rattle.fl_table.specs.declared.faults.PutRefusal.{PutRefusal}
use Rattle.fl_table.specs.declared.faults.PutRefusal.TheVariants as put
use Rattle.fl_ship.specs.Puts.{ComesTo, HasPut, ShipsGiven}
use Rattle.fl_ship.specs.declared.fault.ShipFault.{ShipFault}
use Rattle.fl_ship.specs.declared.fault.ShipFault.TheVariants.{Read, Put, Flush}

-- Why a ship of rows isn't done, over any bytes: a read of the source's flash failed, or one of its pages is bad; the copy has no
-- page number left; or an operation of its flash failed. No other refusal comes.
abbrev pub ShipCausedBy : FlashState → FlashState → FlashState → FlashState → ShipFault → Type 0
ShipCausedBy from from_now onto onto_now (Read fault) = IsCaused from fault from_now
ShipCausedBy from from_now onto onto_now (Put put.Spent) = Unit {0}
ShipCausedBy from from_now onto onto_now (Put (put.Flash fault)) = CausedBy onto fault onto_now
ShipCausedBy from from_now onto onto_now (Put (put.Key last)) = ⊥
ShipCausedBy from from_now onto onto_now (Put (put.Columns wanted)) = ⊥
ShipCausedBy from from_now onto onto_now (Put (put.Value column)) = ⊥
ShipCausedBy from from_now onto onto_now (Put (put.Blob limit)) = ⊥
ShipCausedBy from from_now onto onto_now (Put put.Stopped) = ⊥
ShipCausedBy from from_now onto onto_now (Flush (flush.Flash fault)) = CausedBy onto fault onto_now
ShipCausedBy from from_now onto onto_now (Flush flush.Stopped) = ⊥

-- .. and why one row isn't put
abbrev pub PutCausedBy : FlashState → FlashState → PutRefusal → Type 0
PutCausedBy onto onto_now refusal = ShipCausedBy onto onto onto onto_now (Put refusal)

-- .. and why its table isn't flushed
abbrev pub FlushCausedBy : FlashState → FlashState → ShipFault → Type 0
FlushCausedBy onto onto_now fault = (failed : FlashFault) × (fault ≡ Flush (flush.Flash failed)) × CausedBy onto failed onto_now

-- no operation of the copy failed: its table goes on
abbrev pub goes_on : Result ℕ ShipFault → Bool
goes_on (Ok n) = true
goes_on (Err (Read fault)) = true
goes_on (Err (Put put.Spent)) = true
goes_on (Err fault) = false

-- ---- page numbers

-- the number of the next page of a ring of a table, 0 where it has no such ring
abbrev pub next_number : LoggedTable 64 64 → RingName → ℕ
next_number t DataRing = next_in (table_in t)
next_number t IndexRing = bitmaps.next_of (index_in (table_in t))
next_number t VarRing = variable.next_of (data_in (table_in t))
next_number t LogRing = unwrap_or (option_map (λ l. log.next_in l) (log_in t)) 0

-- those of one table are at most so many above those of another
abbrev pub HaveRisen : LoggedTable 64 64 → ℕ → LoggedTable 64 64 → Type 0
HaveRisen old n new = (ring : RingName) → next_number new ring ≤ next_number old ring + n

-- a ring of the table has fewer page numbers left than so many
abbrev pub HasFewNumbers : LoggedTable 64 64 → ℕ → Type 0
HasFewNumbers t count = (ring : RingName) × (spent_from < next_number t ring + count)

-- ---- no cut is armed

-- Some of these records were put: all of them, or those before a read that failed, or before one that is refused or whose put
-- failed. Nothing is flushed.
abbrev pub PutsGiven : Plan → List Record → model.Table → Result ℕ ShipFault → model.Table → Type 0
PutsGiven plan given table (Ok n) after = (n ≡ length given) × HasPut plan given n table after
PutsGiven plan given table (Err fault) after = ShipsGiven plan given table (Err fault) after

-- The records that came were put so: those that were wanted, where they are told.
pub record RowsPut (first : ℕ) (plan : Plan) (table : model.Table) (Told : Type 0) (wanted : List Record) (t : LoggedTable 64 64) (g : FlashState) (result : Result ℕ ShipFault) : Type 0 where
  pub given : List Record
  pub are : Told → given ≡ wanted
  pub after : model.Table
  pub puts : PutsGiven plan given table result after
  pub rests : Rests g first plan (lose after)
  pub works : IsTrue (goes_on result) → Works t g first plan after

-- .. or shipped so, and the flash stands for what is left of the table without what is in memory alone; where no operation failed,
-- the table goes on.
pub record RowsShip (first : ℕ) (plan : Plan) (table : model.Table) (Told : Type 0) (wanted : List Record) (t : LoggedTable 64 64) (g : FlashState) (result : Result ℕ ShipFault) : Type 0 where
  pub given : List Record
  pub are : Told → given ≡ wanted
  pub after : model.Table
  pub ships : ShipsGiven plan given table result after
  pub rests : Rests g first plan (lose after)
  pub works : IsTrue (goes_on result) → Works t g first plan after

-- The table was flushed, or an operation failed in its flush.
abbrev pub FlushesCopy : ℕ → Plan → model.Table → LoggedTable 64 64 → FlashState → Result (Unit {0}) ShipFault → Type 0
FlushesCopy first plan table t g (Ok done) = Works t g first plan (flushed plan table)
FlushesCopy first plan table t g (Err (Read fault)) = ⊥
FlushesCopy first plan table t g (Err (Put refusal)) = ⊥
FlushesCopy first plan table t g (Err (Flush (flush.Flash flash.Media))) = (after : model.Table) × FailsInFlush plan table after × Rests g first plan (lose after)
FlushesCopy first plan table t g (Err (Flush (flush.Flash flash.PowerLost))) = ⊥
FlushesCopy first plan table t g (Err (Flush flush.Stopped)) = ⊥

-- ---- a cut may be armed

-- These records are put one after another, and each put is done.
abbrev pub ArePut : Plan → Bool → List Record → Device → model.Table → PartProgress model.Table → Type 0
ArePut plan rose [] device table now = now ≡ record { end = Whole; device = device; state = table }
ArePut plan rose (item ∷ items) device table now =
    (refusal_of plan table item ≡ None)
    × ((mid : PartProgress model.Table) × TablePuts plan rose item device table mid × (mid.end ≡ Whole) × ArePut plan rose items mid.device mid.state now)

-- The put of one of these records came last, behind those before it.
pub record EndsInPut (plan : Plan) (rose : Bool) (given : List Record) (device : Device) (table : model.Table) (now : PartProgress model.Table) : Type 0 where
  pub n : ℕ
  pub item : Record
  pub few : n ≤ length given
  pub next : slice_get given n ≡ Some item
  pub mid : PartProgress model.Table
  pub before : ArePut plan rose (take n given) device table mid
  pub accepted : refusal_of plan mid.state item ≡ None
  pub did : TablePuts plan rose item mid.device mid.state now

-- All of them were put, and the flush came last.
pub record EndsInFlush (plan : Plan) (rose : Bool) (given : List Record) (device : Device) (table : model.Table) (now : PartProgress model.Table) : Type 0 where
  pub mid : PartProgress model.Table
  pub before : ArePut plan rose given device table mid
  pub did : BySeals plan (table_seals plan mid.state) mid.state rose mid.device now

-- So many rows were taken, fewer than are asked for; where they are told, these are left.
abbrev pub AreTaken : Type 0 → ℕ → List Row → List Row → ℕ → Type 0
AreTaken Told count all left n = (n < count) × (Told → left ≡ drop n all)

-- The work on the copy of a ship of these records, by its answer. Where a read of the source failed, those that were taken were put, and
-- nothing was flushed.
abbrev pub ShipsWork : (ℕ → Type 0) → Plan → Bool → Device → model.Table → Result ℕ ShipFault → List Record → PartProgress model.Table → Type 0
ShipsWork Taken plan rose device table (Ok n) given now = (n ≡ length given) × EndsInFlush plan rose given device table now × TableShips plan rose given device table now
ShipsWork Taken plan rose device table (Err (Read fault)) given now = (n : ℕ) × Taken n × (n ≤ length given) × ArePut plan rose (take n given) device table now
ShipsWork Taken plan rose device table (Err (Put put.Spent)) given now =
    ((item : Record) × ComesTo plan given table item now.state × (refusal_of plan now.state item ≡ Some model.Spent)) × TableShips plan rose given device table now
ShipsWork Taken plan rose device table (Err (Put (put.Flash fault))) given now = EndsInPut plan rose given device table now × TableShips plan rose given device table now
ShipsWork Taken plan rose device table (Err (Put (put.Key last))) given now = ⊥
ShipsWork Taken plan rose device table (Err (Put (put.Columns wanted))) given now = ⊥
ShipsWork Taken plan rose device table (Err (Put (put.Value column))) given now = ⊥
ShipsWork Taken plan rose device table (Err (Put (put.Blob limit))) given now = ⊥
ShipsWork Taken plan rose device table (Err (Put put.Stopped)) given now = ⊥
ShipsWork Taken plan rose device table (Err (Flush (flush.Flash fault))) given now = EndsInFlush plan rose given device table now × TableShips plan rose given device table now
ShipsWork Taken plan rose device table (Err (Flush flush.Stopped)) given now = ⊥

-- .. and the same before its flush
abbrev pub PutsWork : (ℕ → Type 0) → Plan → Bool → Device → model.Table → Result ℕ ShipFault → List Record → PartProgress model.Table → Type 0
PutsWork Taken plan rose device table (Ok n) given now = (n ≡ length given) × ArePut plan rose given device table now
PutsWork Taken plan rose device table (Err fault) given now = ShipsWork Taken plan rose device table (Err fault) given now

-- an operation of the copy failed, as is answered; or none did
abbrev pub WorkEnds : {X : Type 0} → Result X ShipFault → PartEnd model.Table → FlashState → Type 0
WorkEnds (Err (Put (put.Flash fault))) end g = FaultEnds end fault g
WorkEnds (Err (Flush (flush.Flash fault))) end g = FaultEnds end fault g
WorkEnds result end g = (end ≡ Whole) × (g.is_on ≡ true)

-- The flash stands for what the work left of the table, without what was in memory. Where no operation failed, the table goes on.
pub record WorksOn {X : Type 0} (first : ℕ) (plan : Plan) (Did : PartProgress model.Table → Type 0) (t : LoggedTable 64 64) (g : FlashState) (result : Result X ShipFault) : Type 0 where
  pub now : PartProgress model.Table
  pub did : Did now
  pub ends : WorkEnds result now.end g
  pub counts : SameDevice g now.device
  pub rests : Rests g first plan (lose now.state)
  pub stands : now.end ≡ Whole → Stands t g first plan now.state

-- .. over the records that came: those that were wanted, where they are told
pub record RowsWork (first : ℕ) (plan : Plan) (Told : Type 0) (wanted : List Record) (Did : List Record → PartProgress model.Table → Type 0) (t : LoggedTable 64 64) (g : FlashState) (result : Result ℕ ShipFault) : Type 0 where
  pub given : List Record
  pub are : Told → given ≡ wanted
  pub works : WorksOn first plan (Did given) t g result

-- However that work ends, also by a cut, and however many were taken, the table keeps a front of what it had and was given, without its
-- oldest records, also once nothing is in memory.
abbrev pub WorkKeeps : Type 0
WorkKeeps =
    (plan : Plan) (rose : Bool) (device : Device) (table : model.Table) (result : Result ℕ ShipFault) (given : List Record) (now : PartProgress model.Table) →
    ShipsWork (λ n. Unit {0}) plan rose device table result given now → KeepsOf (records_in table) given (records_in now.state) × KeepsOf (records_in table) given (records_in (lose now.state))
