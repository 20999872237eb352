-- How the calls of a table end, over a flash that stands for a table of the model.
use Rattle.std.specs.Prelude.{◌≡◌, ℕ, ◌+◌, Bool, true, false, Some, None, Result, Ok, Err, List, [], ◌∷◌, length, map}
use Rattle.fl_flash.specs.Flash.{FlashState, page_at}
use Rattle.fl_flash.specs.declared.flash.FlashFault.{FlashFault}
use Rattle.fl_frame.specs.Device.{SameDevice}
use Rattle.fl_model.specs.Record.{Record, Plan}
use Rattle.fl_model.specs.Table as model
use Rattle.fl_model.specs.Table.{RingName, DataRing, after_seals, fill_seals, with_record, refusal_of, put_record, table_seals, flushed, lose}
use Rattle.fl_model.specs.Spline.{voids_of}
use Rattle.fl_model.specs.Work.{Device, Whole, PartProgress}
use Rattle.fl_model.specs.Within.{TableMounted, TableMounts}
use Rattle.fl_model.specs.Mount.{Of, rings_of, ready, blob_end}
use Rattle.fl_model.specs.Puts.{TablePuts}
use Rattle.fl_parts.specs.Failing.{BySeals, Breaks, MountsBadly}
use Rattle.fl_table.specs.declared.table.Table.{Table}
use Rattle.fl_table.specs.declared.faults.PutRefusal.{PutRefusal}
use Rattle.fl_table.specs.declared.faults.PutRefusal.TheVariants as put
use Rattle.fl_table.specs.declared.faults.FlushFault.{FlushFault}
use Rattle.fl_table.specs.declared.faults.FlushFault.TheVariants as flush
use Rattle.fl_parts.specs.declared.mount_fault.MountFault.{MountFault}
use Rattle.fl_parts.specs.declared.mount_fault.MountFault.TheVariants as mount
use Rattle.fl_table.specs.declared.counts.Mounted.{Mounted}
use Rattle.fl_table.specs.declared.mount.FoundRows.{FoundRows}
use Rattle.fl_model.specs.Facts.{IsTable, IsSettled}
use Rattle.fl_parts.specs.Bitmaps.{Stand}
use Rattle.fl_table.specs.Memory.{IsPlanned, HoldsInMemory}
use Rattle.fl_parts.specs.Mountable.{IsPaged, BlobsBefore}
use Rattle.fl_parts.specs.Pages.{HoldsTable, KeptStand}
use Rattle.fl_table.specs.Standing.{StandsAsTold, Stands}

-- The operations of a call were all done, and it left this table.
pub record Finishes {KNOTS SLOTS : ℕ} (first : ℕ) (plan : Plan) (Did : PartProgress model.Table → Type 0) (table after : model.Table) (t : Table KNOTS SLOTS) (old new : FlashState) : Type 0 where
  pub now : PartProgress model.Table
  pub did : Did now
  pub whole : now.end ≡ Whole
  pub counts : SameDevice new now.device
  pub power : new.is_on ≡ true
  pub stands : Stands t new first plan after
  pub stand : KeptStand first plan table after (page_at old) (page_at new)

-- the seals of these rings, one after another
abbrev pub SealsEnd : {KNOTS SLOTS : ℕ} → ℕ → Plan → List RingName → model.Table → Bool → Device → Result (Unit {0}) FlashFault → Table KNOTS SLOTS → FlashState → FlashState → Type 0
SealsEnd first plan rings table rose device (Ok done) t old new =
    Finishes first plan (BySeals plan rings table rose device) table (after_seals plan rings table) t old new
SealsEnd first plan rings table rose device (Err fault) t old new = Breaks first plan (BySeals plan rings table rose device) fault new

-- the record joined the table, and the pages that its blob fills were sealed
abbrev pub JoinEnds : {KNOTS SLOTS : ℕ} → ℕ → Plan → Record → model.Table → Bool → Device → Result (Unit {0}) FlashFault → Table KNOTS SLOTS → FlashState → FlashState → Type 0
JoinEnds first plan item table rose device (Ok done) t old new =
    let joined = with_record plan item table in
    Finishes first plan (BySeals plan (fill_seals plan joined) joined rose device) table (after_seals plan (fill_seals plan joined) joined) t old new
JoinEnds first plan item table rose device (Err fault) t old new =
    let joined = with_record plan item table in Breaks first plan (BySeals plan (fill_seals plan joined) joined rose device) fault new

-- a put of an accepted record, by the refusal that it answers
abbrev pub PutEnds : {KNOTS SLOTS : ℕ} → ℕ → Plan → Record → model.Table → Bool → Device → Result (Unit {0}) PutRefusal → Table KNOTS SLOTS → FlashState → FlashState → Type 0
PutEnds first plan item table rose device (Ok done) t old new =
    (refusal_of plan table item ≡ None)
    × Finishes first plan (TablePuts plan rose item device table) table (put_record plan item table) t old new
PutEnds first plan item table rose device (Err (put.Flash fault)) t old new =
    (refusal_of plan table item ≡ None) × Breaks first plan (TablePuts plan rose item device table) fault new
PutEnds first plan item table rose device (Err (put.Key last)) t old new = refusal_of plan table item ≡ Some (model.BadKey last)
PutEnds first plan item table rose device (Err (put.Columns wanted)) t old new = refusal_of plan table item ≡ Some (model.BadColumns wanted)
PutEnds first plan item table rose device (Err (put.Value column)) t old new = refusal_of plan table item ≡ Some (model.BadValue column)
PutEnds first plan item table rose device (Err (put.Blob limit)) t old new = refusal_of plan table item ≡ Some (model.BadBlob limit)
PutEnds first plan item table rose device (Err put.Spent) t old new = refusal_of plan table item ≡ Some model.Spent
PutEnds first plan item table rose device (Err put.Stopped) t old new = ⊥

-- a flush
abbrev pub FlushEnds : {KNOTS SLOTS : ℕ} → ℕ → Plan → model.Table → Bool → Device → Result (Unit {0}) FlushFault → Table KNOTS SLOTS → FlashState → FlashState → Type 0
FlushEnds first plan table rose device (Ok done) t old new =
    Finishes first plan (BySeals plan (table_seals plan table) table rose device) table (flushed plan table) t old new
FlushEnds first plan table rose device (Err (flush.Flash fault)) t old new =
    Breaks first plan (BySeals plan (table_seals plan table) table rose device) fault new
FlushEnds first plan table rose device (Err flush.Stopped) t old new = ⊥

-- what a mount answers of the table that it leaves: the records, the kept data pages, and the void ones among these
abbrev pub mounted_of : model.Table → Mounted
mounted_of table = record { rows = length table.entries; pages = length table.rows.counts; voids = voids_of table }

-- A mount that ended well: the table is ready. Where all facts held of it, they hold of the table that is left.
pub record MountsWell {KNOTS SLOTS : ℕ} (first : ℕ) (plan : Plan) (rings : List RingName) (table : model.Table) (rose : Bool) (device : Device) (mounted : Mounted) (t : Table KNOTS SLOTS) (new : FlashState) : Type 0 where
  pub now : PartProgress model.Table
  pub did : TableMounts plan rose (map (λ ring. Of ring) rings) device table (TableMounted now)
  pub counts : SameDevice new now.device
  pub power : new.is_on ≡ true
  pub loaded : StandsAsTold t new first plan (ready plan now.state)
  pub stands : IsSettled plan table → Stands t new first plan (ready plan now.state)
  pub answer : mounted ≡ mounted_of (ready plan now.state)

-- The data ring was mounted and its pages were read: this is known of the table then, whose variable data aren't mounted.
pub record DataWell {KNOTS SLOTS : ℕ} (first : ℕ) (plan : Plan) (table : model.Table) (rose : Bool) (device : Device) (found : FoundRows) (t : Table KNOTS SLOTS) (new : FlashState) : Type 0 where
  pub now : PartProgress model.Table
  pub did : TableMounts plan rose (Of DataRing ∷ []) device table (TableMounted now)
  pub counts : SameDevice new now.device
  pub power : new.is_on ≡ true
  pub lost : now.state ≡ lose now.state
  pub paged : IsPaged plan now.state
  pub before : BlobsBefore now.state
  pub pages : HoldsTable (page_at new) first plan now.state
  pub settled : IsSettled plan table → IsSettled plan now.state
  pub whole : now.state.rows.torn ≡ false
  pub clean : now.state.rows.dirty ≡ false
  pub planned : IsPlanned t first plan
  pub facts : IsSettled plan table → IsTable plan (ready plan now.state)
  pub memory : HoldsInMemory t found.ring plan (ready plan now.state)
  pub bitmaps : Stand t.bitmaps new (first + plan.data_blocks) plan (ready plan now.state)
  pub answer : found.mounted ≡ mounted_of (ready plan now.state)
  pub end_is : found.blob_end ≡ blob_end now.state

abbrev pub DataEnds : {KNOTS SLOTS : ℕ} → ℕ → Plan → model.Table → Bool → Device → Result FoundRows MountFault → Table KNOTS SLOTS → FlashState → Type 0
DataEnds first plan table rose device (Ok found) t new = DataWell first plan table rose device found t new
DataEnds first plan table rose device (Err (mount.Flash fault)) t new = MountsBadly first plan (DataRing ∷ []) table rose device fault new
DataEnds first plan table rose device (Err (mount.Ring fault)) t new = ⊥
DataEnds first plan table rose device (Err (mount.BadPage bad)) t new = ⊥
DataEnds first plan table rose device (Err (mount.BadKeys page last key)) t new = ⊥
DataEnds first plan table rose device (Err (mount.BadIndex end next)) t new = ⊥
DataEnds first plan table rose device (Err (mount.BadBlob page next)) t new = ⊥
DataEnds first plan table rose device (Err (mount.BadEntry page count limit)) t new = ⊥

-- the mount of these rings of a table, in order
abbrev pub RingsEnd : {KNOTS SLOTS : ℕ} → ℕ → Plan → List RingName → model.Table → Bool → Device → Result Mounted MountFault → Table KNOTS SLOTS → FlashState → Type 0
RingsEnd first plan rings table rose device (Ok mounted) t new = MountsWell first plan rings table rose device mounted t new
RingsEnd first plan rings table rose device (Err (mount.Flash fault)) t new = MountsBadly first plan rings table rose device fault new
RingsEnd first plan rings table rose device (Err (mount.Ring fault)) t new = ⊥
RingsEnd first plan rings table rose device (Err (mount.BadPage bad)) t new = ⊥
RingsEnd first plan rings table rose device (Err (mount.BadKeys page last key)) t new = ⊥
RingsEnd first plan rings table rose device (Err (mount.BadIndex end next)) t new = ⊥
RingsEnd first plan rings table rose device (Err (mount.BadBlob page next)) t new = ⊥
RingsEnd first plan rings table rose device (Err (mount.BadEntry page count limit)) t new = ⊥

-- .. and of all of them
abbrev pub MountEnds : {KNOTS SLOTS : ℕ} → ℕ → Plan → model.Table → Bool → Device → Result Mounted MountFault → Table KNOTS SLOTS → FlashState → Type 0
MountEnds first plan table rose device result t new = RingsEnd first plan (rings_of plan) table rose device result t new
