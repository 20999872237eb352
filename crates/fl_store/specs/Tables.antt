-- The tables of an image, whose rings stand one after another on its flash.
use Rattle.std.specs.Prelude.{◌≡◌, ℕ, ◌+◌, ◌^◌, ◌<◌, ◌≤◌, Bool, true, false, ◌⊎◌, MatchBool, Option, Some, None, Result, Ok, Err, List, length, map, take, slice_get, set, sum_by}
use Rattle.fl_flash.specs.Flash.{FlashState, pages}
use Rattle.fl_flash.specs.declared.flash.FlashFault.{FlashFault}
use Rattle.fl_flash.specs.declared.flash.FlashFault.TheVariants.{PowerLost, Media}
use Rattle.fl_model.specs.Mount.{Mounts, Mounted, Stopped, Unread, turns_from}
use Rattle.fl_model.specs.Record.{Plan, blocks_of}
use Rattle.fl_model.specs.Table as model
use Rattle.fl_model.specs.Table.{lose}
use Rattle.fl_model.specs.Work.{Device, Progress, Outcome, Finished, CutShort, Failed}
use Rattle.fl_frame.specs.Device.{SameDevice}
use Rattle.fl_words.specs.Config.{Lines}
use Rattle.fl_machine.specs.Step.{all_ready}
use Rattle.fl_rlc.specs.Logged.{Rests, Stands}
use Rattle.fl_rlc.specs.Mounting.{pages_in}
use Rattle.fl_rlc.specs.Table.{IsPlanned, LiesOn, NothingWaits, is_running}
use Rattle.fl_rlc.specs.declared.table.LoggedTable.{LoggedTable}
use Rattle.fl_parts.specs.declared.mount_fault.MountFault.{MountFault}
use Rattle.fl_parts.specs.declared.mount_fault.MountFault.TheVariants as mount
use Rattle.fl_store.specs.declared.tables.BadMount.{BadMount}
use Rattle.fl_store.specs.declared.tables.Entry.{Entry}

-- the first block of the table at a place: its rings stand behind those of the tables before it
abbrev pub first_of : List Plan → ℕ → ℕ
first_of plans i = sum_by blocks_of (take i plans)

-- a table that was made for a plan, whose blocks begin at `first`, and never mounted
pub record IsNewTable (entry : Entry) (first : ℕ) (plan : Plan) (lines : Lines) : Type 0 where
  pub named : plan.name ≡ entry.name
  pub device : lines.device ≡ Some plan.geometry
  pub down : is_running entry.table ≡ false
  pub planned : IsPlanned entry.table first plan
  pub lies : (f : FlashState) → f.geometry ≡ plan.geometry → first + blocks_of plan ≤ f.blocks → pages f < 2 ^ 32 → LiesOn entry.table f

-- a table for each line
pub record AreNewTables (entries : List Entry) (lines : Lines) : Type 0 where
  pub as_many : length entries ≡ length lines.plans
  pub each : (i : ℕ) (plan : Plan) (entry : Entry) → slice_get lines.plans i ≡ Some plan → slice_get entries i ≡ Some entry → IsNewTable entry (first_of lines.plans i) plan lines

-- the first table with this name is at this place
pub record IsNamed (entries : List Entry) (name : List ℕ) (at : ℕ) : Type 0 where
  pub entry : Entry
  pub here : slice_get entries at ≡ Some entry
  pub named : entry.name ≡ name
  pub first : (i : ℕ) (other : Entry) → i < at → slice_get entries i ≡ Some other → other.name ≡ name → ⊥

abbrev pub Names : List Entry → List ℕ → Option ℕ → Type 0
Names entries name (Some at) = IsNamed entries name at
Names entries name None = (i : ℕ) (other : Entry) → slice_get entries i ≡ Some other → other.name ≡ name → ⊥

-- the tables with another one in the place of an entry's
abbrev pub entries_with : List Entry → ℕ → Entry → LoggedTable 64 64 → List Entry
entries_with entries at entry t = set entries at (record { name = entry.name; table = t })

-- each table lies on the flash, and each is mounted and goes on
abbrev pub LieOn : List Entry → FlashState → Type 0
LieOn entries f = (i : ℕ) (entry : Entry) → slice_get entries i ≡ Some entry → LiesOn entry.table f

abbrev pub AreRunning : List Entry → Type 0
AreRunning entries = (i : ℕ) (entry : Entry) → slice_get entries i ≡ Some entry → is_running entry.table ≡ true

-- nothing of any table waits in memory
abbrev pub NoneWaits : List Entry → Type 0
NoneWaits entries = (i : ℕ) (entry : Entry) → slice_get entries i ≡ Some entry → NothingWaits entry.table

-- A mount of these tables stopped at this one: those before it are mounted, it isn't, and those behind it weren't touched.
pub record StopsAt (old new : List Entry) (bad : BadMount) : Type 0 where
  pub entry : Entry
  pub here : slice_get new bad.at ≡ Some entry
  pub named : entry.name ≡ bad.name
  pub down : is_running entry.table ≡ false
  pub before : (i : ℕ) (other : Entry) → i < bad.at → slice_get new i ≡ Some other → is_running other.table ≡ true
  pub behind : (i : ℕ) → bad.at < i → slice_get new i ≡ slice_get old i

-- the pages of their rings
abbrev pub pages_of : List Entry → ℕ
pages_of entries = sum_by (λ entry. pages_in entry.table) entries

-- a table is the one of this plan. It stands for this state while it is mounted, and its pages do else
pub record EntryStands (entry : Entry) (f : FlashState) (mounted : Bool) (first : ℕ) (plan : Plan) (table : model.Table) : Type 0 where
  pub named : plan.name ≡ entry.name
  pub geometry : plan.geometry ≡ f.geometry
  pub planned : IsPlanned entry.table first plan
  pub on_flash : MatchBool mounted (Stands entry.table f first plan table) (Rests f first plan table)

-- each table is that of its line; `mounted` tells by its place whether it is mounted
pub record TablesStand (f : FlashState) (mounted : ℕ → Bool) (plans : List Plan) (entries : List Entry) (tables : List model.Table) : Type 0 where
  pub as_many : length entries ≡ length plans
  pub all : length tables ≡ length plans
  pub each : (i : ℕ) (plan : Plan) (entry : Entry) (table : model.Table) → slice_get plans i ≡ Some plan → slice_get entries i ≡ Some entry → slice_get tables i ≡ Some table →
      EntryStands entry f (mounted i) (first_of plans i) plan table

-- all were mounted, and are ready
pub record TablesMounted (plans : List Plan) (tables : List model.Table) (rose : Bool) (device : Device) (entries : List Entry) (new : FlashState) : Type 0 where
  pub end : Progress
  pub whole : end.outcome ≡ Finished
  pub did : Mounts plans rose (turns_from 0 plans) device tables (Mounted end)
  pub counts : SameDevice new end.device
  pub power : new.is_on ≡ true
  pub stand : TablesStand new (λ i. true) plans entries (all_ready plans end.tables)

-- the fault that an operation answers where it fails so
abbrev pub FaultIs : Outcome → FlashFault → Type 0
FaultIs Finished fault = ⊥
FaultIs (CutShort before) fault = fault ≡ PowerLost
FaultIs (Failed before) fault = fault ≡ Media

-- an operation of the mount failed, or a read: what was done until then stays, without what was in memory
pub record TablesBroken (plans : List Plan) (tables : List model.Table) (rose : Bool) (device : Device) (fault : FlashFault) (entries : List Entry) (new : FlashState) : Type 0 where
  pub end : Progress
  pub did : (Mounts plans rose (turns_from 0 plans) device tables (Stopped end) × FaultIs end.outcome fault)
      ⊎ (Mounts plans rose (turns_from 0 plans) device tables (Unread end) × (fault ≡ Media))
  pub counts : SameDevice new end.device
  pub rest : TablesStand new (λ i. false) plans entries (map lose end.tables)

abbrev pub MountBreaks : List Plan → List model.Table → Bool → Device → MountFault → List Entry → FlashState → Type 0
MountBreaks plans tables rose device (mount.Flash fault) entries new = TablesBroken plans tables rose device fault entries new
MountBreaks plans tables rose device fault entries new = ⊥

-- how a mount of the tables ends, over a flash that stands for them
abbrev pub TablesMount : List Plan → List model.Table → Bool → Device → Result (Unit {0}) BadMount → List Entry → FlashState → Type 0
TablesMount plans tables rose device (Ok done) entries new = TablesMounted plans tables rose device entries new
TablesMount plans tables rose device (Err bad) entries new = MountBreaks plans tables rose device bad.fault entries new
