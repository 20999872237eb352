-- How the calls of a table with a log end, over a flash that stands for a table of the model.
use Rattle.std.specs.Prelude.{◌≡◌, ◌⊎◌, ℕ, Bool, true, Some, None, Result, Ok, Err}
use Rattle.fl_flash.specs.Flash.{FlashState, page_at}
use Rattle.fl_flash.specs.declared.flash.FlashFault.{FlashFault}
use Rattle.fl_flash.specs.declared.flash.FlashFault.TheVariants.{Media}
use Rattle.fl_machine.specs.Step.{made_ready}
use Rattle.fl_model.specs.Mount.{turns_of}
use Rattle.fl_model.specs.Puts.{TablePuts}
use Rattle.fl_model.specs.Record.{Record, Plan}
use Rattle.fl_model.specs.Ring.{Ring}
use Rattle.fl_model.specs.Table as model
use Rattle.fl_model.specs.Table.{LogRing, refusal_of, put_record, table_seals, flushed, lose}
use Rattle.fl_model.specs.Within.{TableMounts, TableMounted, TableStopped, TableUnread}
use Rattle.fl_model.specs.Work.{Device, Whole, PartProgress}
use Rattle.fl_frame.specs.Device.{SameDevice}
use Rattle.fl_ring.specs.Kept.{PagesStand}
use Rattle.fl_parts.specs.Failing.{BySeals, FaultEnds}
use Rattle.fl_table.specs.Outcomes.{mounted_of}
use Rattle.fl_parts.specs.Pages.{KeptStand, bytes_in}
use Rattle.fl_table.specs.declared.counts.Mounted.{Mounted}
use Rattle.fl_parts.specs.declared.mount_fault.MountFault.{MountFault}
use Rattle.fl_parts.specs.declared.mount_fault.MountFault.TheVariants as mount
use Rattle.fl_table.specs.declared.faults.FlushFault.{FlushFault}
use Rattle.fl_table.specs.declared.faults.FlushFault.TheVariants as flush
use Rattle.fl_table.specs.declared.faults.PutRefusal.{PutRefusal}
use Rattle.fl_table.specs.declared.faults.PutRefusal.TheVariants as put
use Rattle.fl_rlc.specs.Logged.{Stands, Rests}
use Rattle.fl_rlc.specs.declared.table.LoggedTable.{LoggedTable}

-- the pages of the log that were kept and still are have the bytes that they had
abbrev pub LogStays : ℕ → Plan → model.Table → model.Table → FlashState → FlashState → Type 0
LogStays first plan before after old new =
    (a b : Ring) → before.log ≡ Some a → after.log ≡ Some b → PagesStand a (bytes_in (page_at old) first plan LogRing) b (bytes_in (page_at new) first plan LogRing)

-- The operations of a call were all done, and it left this table.
pub record Finishes {KNOTS SLOTS : ℕ} (first : ℕ) (plan : Plan) (Did : PartProgress model.Table → Type 0) (table after : model.Table) (t : LoggedTable KNOTS SLOTS) (old new : FlashState) : Type 0 where
  pub now : PartProgress model.Table
  pub did : Did now
  pub whole : now.end ≡ Whole
  pub counts : SameDevice new now.device
  pub power : new.is_on ≡ true
  pub stands : Stands t new first plan after
  pub stand : KeptStand first plan table after (page_at old) (page_at new)
  pub log : LogStays first plan table after old new

-- One of the operations failed. The table is stopped, and the flash stands for what is left without what was in memory.
pub record Breaks (first : ℕ) (plan : Plan) (Did : PartProgress model.Table → Type 0) (fault : FlashFault) (new : FlashState) : Type 0 where
  pub now : PartProgress model.Table
  pub did : Did now
  pub answer : FaultEnds now.end fault new
  pub counts : SameDevice new now.device
  pub rests : Rests new first plan (lose now.state)

-- a put of an accepted record, by the refusal that it answers
abbrev pub PutEnds : {KNOTS SLOTS : ℕ} → ℕ → Plan → Record → model.Table → Bool → Device → Result (Unit {0}) PutRefusal → LoggedTable KNOTS SLOTS → FlashState → FlashState → Type 0
PutEnds first plan item table rose device (Ok done) t old new =
    (refusal_of plan table item ≡ None)
    × Finishes first plan (TablePuts plan rose item device table) table (put_record plan item table) t old new
PutEnds first plan item table rose device (Err (put.Flash fault)) t old new =
    (refusal_of plan table item ≡ None) × Breaks first plan (TablePuts plan rose item device table) fault new
PutEnds first plan item table rose device (Err (put.Key last)) t old new = refusal_of plan table item ≡ Some (model.BadKey last)
PutEnds first plan item table rose device (Err (put.Columns wanted)) t old new = refusal_of plan table item ≡ Some (model.BadColumns wanted)
PutEnds first plan item table rose device (Err (put.Value column)) t old new = refusal_of plan table item ≡ Some (model.BadValue column)
PutEnds first plan item table rose device (Err (put.Blob limit)) t old new = refusal_of plan table item ≡ Some (model.BadBlob limit)
PutEnds first plan item table rose device (Err put.Spent) t old new = refusal_of plan table item ≡ Some model.Spent
PutEnds first plan item table rose device (Err put.Stopped) t old new = ⊥

-- a flush, which doesn't touch the log
abbrev pub FlushEnds : {KNOTS SLOTS : ℕ} → ℕ → Plan → model.Table → Bool → Device → Result (Unit {0}) FlushFault → LoggedTable KNOTS SLOTS → FlashState → FlashState → Type 0
FlushEnds first plan table rose device (Ok done) t old new =
    Finishes first plan (BySeals plan (table_seals plan table) table rose device) table (flushed plan table) t old new
FlushEnds first plan table rose device (Err (flush.Flash fault)) t old new =
    Breaks first plan (BySeals plan (table_seals plan table) table rose device) fault new
FlushEnds first plan table rose device (Err flush.Stopped) t old new = ⊥

-- A mount that ended well: the table is ready, and nothing is pending. Its log owes nothing, but where page numbers are spent.
pub record MountsWell {KNOTS SLOTS : ℕ} (first : ℕ) (plan : Plan) (table : model.Table) (rose : Bool) (device : Device) (mounted : Mounted) (t : LoggedTable KNOTS SLOTS) (new : FlashState) : Type 0 where
  pub now : PartProgress model.Table
  pub did : TableMounts plan rose (turns_of plan) device table (TableMounted now)
  pub counts : SameDevice new now.device
  pub power : new.is_on ≡ true
  pub stands : Stands t new first plan (made_ready plan now.state)
  pub answer : mounted ≡ mounted_of (made_ready plan now.state)

-- It failed in an operation of a repair or of the seal of its replay, or in a read: what was done until then stays, without what was
-- in memory.
pub record MountsBadly (first : ℕ) (plan : Plan) (table : model.Table) (rose : Bool) (device : Device) (fault : FlashFault) (new : FlashState) : Type 0 where
  pub now : PartProgress model.Table
  pub did : (TableMounts plan rose (turns_of plan) device table (TableStopped now) × FaultEnds now.end fault new)
      ⊎ (TableMounts plan rose (turns_of plan) device table (TableUnread now) × (fault ≡ Media))
  pub counts : SameDevice new now.device
  pub rests : Rests new first plan (lose now.state)

abbrev pub MountEnds : {KNOTS SLOTS : ℕ} → ℕ → Plan → model.Table → Bool → Device → Result Mounted MountFault → LoggedTable KNOTS SLOTS → FlashState → Type 0
MountEnds first plan table rose device (Ok mounted) t new = MountsWell first plan table rose device mounted t new
MountEnds first plan table rose device (Err (mount.Flash fault)) t new = MountsBadly first plan table rose device fault new
MountEnds first plan table rose device (Err (mount.Ring fault)) t new = ⊥
MountEnds first plan table rose device (Err (mount.BadPage bad)) t new = ⊥
MountEnds first plan table rose device (Err (mount.BadKeys page last key)) t new = ⊥
MountEnds first plan table rose device (Err (mount.BadIndex end next)) t new = ⊥
MountEnds first plan table rose device (Err (mount.BadBlob page next)) t new = ⊥
MountEnds first plan table rose device (Err (mount.BadEntry page count limit)) t new = ⊥
