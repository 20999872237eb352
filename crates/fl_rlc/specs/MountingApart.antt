-- How the mount of a table with a log ends over a flash that stands for the table and, apart from it, for its log: whatever records the log has.
use Rattle.std.specs.Prelude.{◌≡◌, ◌⊎◌, ℕ, ◌+◌, Bool, true, false, Some, Result, Ok, Err}
use Rattle.fl_flash.specs.Flash.{FlashState}
use Rattle.fl_flash.specs.declared.flash.FlashFault.{FlashFault}
use Rattle.fl_flash.specs.declared.flash.FlashFault.TheVariants.{Media}
use Rattle.fl_model.specs.Bare.{bare, bare_table}
use Rattle.fl_model.specs.Mount.{turns_of}
use Rattle.fl_model.specs.Record.{Plan, blocks_of}
use Rattle.fl_model.specs.Table as model
use Rattle.fl_model.specs.Table.{is_rows_spent, lose}
use Rattle.fl_model.specs.Within.{TableMounts, TableMounted, TableStopped, TableUnread}
use Rattle.fl_model.specs.Work.{Device, PartProgress}
use Rattle.fl_frame.specs.Device.{SameDevice}
use Rattle.fl_parts.specs.Failing.{FaultEnds}
use Rattle.fl_table.specs.Outcomes.{mounted_of}
use Rattle.fl_parts.specs.Pages as pages
use Rattle.fl_table.specs.Standing as without_log
use Rattle.fl_table.specs.declared.counts.Mounted.{Mounted}
use Rattle.fl_parts.specs.declared.mount_fault.MountFault.{MountFault}
use Rattle.fl_parts.specs.declared.mount_fault.MountFault.TheVariants as mount
use Rattle.fl_rlc.specs.Logged.{Stands}
use Rattle.fl_rlc.specs.Repairing as repairing
use Rattle.fl_rlc.specs.Standing.{HasRing}
use Rattle.fl_rlc.specs.declared.log.RecordLog.{RecordLog}
use Rattle.fl_rlc.specs.declared.table.LoggedTable.{LoggedTable}

-- neither the table nor its log is mounted
pub record RestApart (l : RecordLog) (f : FlashState) (first : ℕ) (plan : Plan) (table : model.Table) : Type 0 where
  pub unlogged : pages.Rests f first (bare plan) (bare_table table)
  pub log : repairing.Rests l f (first + blocks_of (bare plan)) plan table

-- It ended well: the model's mount was done, and nothing is pending. While page numbers are left the table stands with its log,
-- which has no record then that is above the table's last one.
pub record MountsApart {KNOTS SLOTS : ℕ} (first : ℕ) (plan : Plan) (table : model.Table) (rose : Bool) (device : Device) (mounted : Mounted) (l : RecordLog) (t : LoggedTable KNOTS SLOTS) (new : FlashState) : Type 0 where
  pub now : PartProgress model.Table
  pub did : TableMounts plan rose (turns_of plan) device table (TableMounted now)
  pub counts : SameDevice new now.device
  pub power : new.is_on ≡ true
  pub unlogged : without_log.Stands t.table new first (bare plan) (bare_table now.state)
  pub ring : HasRing l new (first + blocks_of (bare plan)) plan now.state
  pub none : now.state.pending ≡ 0
  pub stands : is_rows_spent now.state ≡ false → Stands t new first plan now.state
  pub answer : mounted ≡ mounted_of (bare_table now.state)

-- It failed in an operation or in a read: what was done until then stays.
pub record FailsApart (first : ℕ) (plan : Plan) (table : model.Table) (rose : Bool) (device : Device) (fault : FlashFault) (l : RecordLog) (new : FlashState) : Type 0 where
  pub now : PartProgress model.Table
  pub did : (TableMounts plan rose (turns_of plan) device table (TableStopped now) × FaultEnds now.end fault new)
      ⊎ (TableMounts plan rose (turns_of plan) device table (TableUnread now) × (fault ≡ Media))
  pub counts : SameDevice new now.device
  pub rests : RestApart l new first plan (lose now.state)

abbrev pub MountApartEnds : {KNOTS SLOTS : ℕ} → ℕ → Plan → model.Table → Bool → Device → RecordLog → Result Mounted MountFault → LoggedTable KNOTS SLOTS → FlashState → Type 0
MountApartEnds first plan table rose device l (Ok mounted) t new = (now : RecordLog) × ((t.log ≡ Some now) × MountsApart first plan table rose device mounted now t new)
MountApartEnds first plan table rose device l (Err (mount.Flash fault)) t new = FailsApart first plan table rose device fault l new
MountApartEnds first plan table rose device l (Err (mount.Ring fault)) t new = ⊥
MountApartEnds first plan table rose device l (Err (mount.BadPage bad)) t new = ⊥
MountApartEnds first plan table rose device l (Err (mount.BadKeys page last key)) t new = ⊥
MountApartEnds first plan table rose device l (Err (mount.BadIndex end next)) t new = ⊥
MountApartEnds first plan table rose device l (Err (mount.BadBlob page next)) t new = ⊥
MountApartEnds first plan table rose device l (Err (mount.BadEntry page count limit)) t new = ⊥
