-- The replay of a log: over any bytes, and over a flash that stands for a table and its log.
use Rattle.std.specs.Prelude.{◌≡◌, ◌⊎◌, ℕ, ◌+◌, Bool, true, false, IsTrue, Some, None, Result, Ok, Err, List, [], ◌∷◌}
use Rattle.fl_flash.specs.Flash.{FlashState}
use Rattle.fl_flash.specs.declared.flash.FlashFault.{FlashFault}
use Rattle.fl_flash.specs.declared.flash.FlashFault.TheVariants.{Media}
use Rattle.fl_model.specs.Bare.{bare, bare_table}
use Rattle.fl_model.specs.Mount.{Of, Replay, joined}
use Rattle.fl_model.specs.Record.{Plan, RowLayout, blocks_of}
use Rattle.fl_model.specs.Ring.{Ring}
use Rattle.fl_model.specs.Table as model
use Rattle.fl_model.specs.Table.{LogRing, has_rows, is_rows_spent, log_pages, lose, owed}
use Rattle.fl_model.specs.Within.{TableMounts, TableMounted, TableStopped, TableUnread}
use Rattle.fl_model.specs.Work.{Device, PartProgress}
use Rattle.fl_page.specs.Page.{IsGoodPage, bad_page, rows_in}
use Rattle.fl_frame.specs.Device.{SameDevice}
use Rattle.fl_parts.specs.Failing.{FaultEnds}
use Rattle.fl_parts.specs.Pages as pages
use Rattle.fl_parts.specs.Reading.{keys_fault}
use Rattle.fl_table.specs.Standing as without_log
use Rattle.fl_parts.specs.declared.mount_fault.MountFault.{MountFault}
use Rattle.fl_parts.specs.declared.mount_fault.MountFault.TheVariants as mount
use Rattle.fl_table.specs.declared.table.Table.{Table}
use Rattle.fl_rlc.specs.Memory.{page_in}
use Rattle.fl_rlc.specs.Pages.{IsLogRing}
use Rattle.fl_rlc.specs.Standing.{HasRing}
use Rattle.fl_rlc.specs.declared.log.RecordLog.{RecordLog}

-- a page with this number may be the newest of a log: it is one of rows, whose keys ascend
pub record MayStand (layout : RowLayout) (number : ℕ) (page : List ℕ) : Type 0 where
  pub good : IsGoodPage layout number page
  pub keys : keys_fault number None (rows_in layout page) ≡ None

-- why another may not
abbrev pub IsBad : RowLayout → ℕ → List ℕ → MountFault → Type 0
IsBad layout number page fault =
    ((IsGoodPage layout number page → ⊥) × (fault ≡ mount.BadPage (bad_page number page)))
    ⊎ (IsGoodPage layout number page × (keys_fault number None (rows_in layout page) ≡ Some fault))

-- how the read of the newest page ends, whose records join the table
abbrev pub JoinsEnd : {KNOTS SLOTS : ℕ} → ℕ → Plan → model.Table → Bool → Result (Unit {0}) MountFault → Table KNOTS SLOTS → FlashState → Type 0
JoinsEnd first plan table rose (Ok done) t new = without_log.Stands t new first (bare plan) (bare_table (joined table))
JoinsEnd first plan table rose (Err (mount.Flash fault)) t new = IsTrue rose × (fault ≡ Media)
JoinsEnd first plan table rose (Err (mount.Ring fault)) t new = ⊥
JoinsEnd first plan table rose (Err (mount.BadPage bad)) t new = ⊥
JoinsEnd first plan table rose (Err (mount.BadKeys page last key)) t new = ⊥
JoinsEnd first plan table rose (Err (mount.BadIndex end next)) t new = ⊥
JoinsEnd first plan table rose (Err (mount.BadBlob page next)) t new = ⊥
JoinsEnd first plan table rose (Err (mount.BadEntry page count limit)) t new = ⊥

-- The log was mounted behind its table, and its records became a page.
pub record ReplaysWell {KNOTS SLOTS : ℕ} (first : ℕ) (plan : Plan) (table : model.Table) (rose : Bool) (device : Device) (log : RecordLog) (t : Table KNOTS SLOTS) (new : FlashState) : Type 0 where
  pub now : PartProgress model.Table
  pub did : TableMounts plan rose (Of LogRing ∷ Replay ∷ []) device table (TableMounted now)
  pub counts : SameDevice new now.device
  pub power : new.is_on ≡ true
  pub unlogged : without_log.Stands t new first (bare plan) (bare_table now.state)
  pub ring : HasRing log new (first + blocks_of (bare plan)) plan now.state
  pub none : now.state.pending ≡ 0
  pub paid : is_rows_spent now.state ≡ false → owed now.state ≡ []

-- An operation failed, or a read: what was done until then stays.
pub record ReplaysBadly (first : ℕ) (plan : Plan) (table : model.Table) (rose : Bool) (device : Device) (fault : FlashFault) (old : RecordLog) (new : FlashState) : Type 0 where
  pub now : PartProgress model.Table
  pub did : (TableMounts plan rose (Of LogRing ∷ Replay ∷ []) device table (TableStopped now) × FaultEnds now.end fault new)
      ⊎ (TableMounts plan rose (Of LogRing ∷ Replay ∷ []) device table (TableUnread now) × (fault ≡ Media))
  pub counts : SameDevice new now.device
  pub unlogged : pages.Rests new first (bare plan) (bare_table (lose now.state))
  pub ring : Ring
  pub ring_is : now.state.log ≡ Some ring
  pub pages : IsLogRing plan (log_pages now.state) ring (page_in old new)
  pub logged_some : has_rows now.state.log ≡ false → now.state.logged ≡ []

abbrev pub ReplayEnds : {KNOTS SLOTS : ℕ} → ℕ → Plan → model.Table → Bool → Device → RecordLog → Result (Unit {0}) MountFault → RecordLog → Table KNOTS SLOTS → FlashState → Type 0
ReplayEnds first plan table rose device old (Ok done) log t new = ReplaysWell first plan table rose device log t new
ReplayEnds first plan table rose device old (Err (mount.Flash fault)) log t new = ReplaysBadly first plan table rose device fault old new
ReplayEnds first plan table rose device old (Err (mount.Ring fault)) log t new = ⊥
ReplayEnds first plan table rose device old (Err (mount.BadPage bad)) log t new = ⊥
ReplayEnds first plan table rose device old (Err (mount.BadKeys page last key)) log t new = ⊥
ReplayEnds first plan table rose device old (Err (mount.BadIndex end next)) log t new = ⊥
ReplayEnds first plan table rose device old (Err (mount.BadBlob page next)) log t new = ⊥
ReplayEnds first plan table rose device old (Err (mount.BadEntry page count limit)) log t new = ⊥
