-- How the seal of a log's page ends, over a flash that stands for the log of a table.
use Rattle.std.specs.Prelude.{◌≡◌, ℕ, Bool, true, false, Some, Result, Ok, Err, [], length}
use Rattle.fl_flash.specs.Flash.{FlashState}
use Rattle.fl_flash.specs.declared.flash.FlashFault.{FlashFault}
use Rattle.fl_model.specs.Bare.{bare_table}
use Rattle.fl_model.specs.Record.{Plan}
use Rattle.fl_model.specs.Ring.{Ring}
use Rattle.fl_model.specs.Table as model
use Rattle.fl_model.specs.Table.{LogRing, after_seal, has_rows, log_pages, pending_entries}
use Rattle.fl_model.specs.Within.{TablePerforms, seal_within}
use Rattle.fl_model.specs.Work.{Device, Whole, PartProgress}
use Rattle.fl_frame.specs.Device.{SameDevice}
use Rattle.fl_ring.specs.Kept.{PagesStand}
use Rattle.fl_parts.specs.Failing.{FaultEnds}
use Rattle.fl_rlc.specs.Memory.{page_in}
use Rattle.fl_rlc.specs.Pages.{IsLogRing, IsPage}
use Rattle.fl_rlc.specs.Standing.{Stands}
use Rattle.fl_rlc.specs.declared.log.RecordLog.{RecordLog}

-- a log whose rows are those of a page: the pending ones of a table
pub record IsReady (log : RecordLog) (f : FlashState) (first : ℕ) (plan : Plan) (table : model.Table) : Type 0 where
  pub stands : Stands log f first plan table
  pub page : IsPage plan (pending_entries table)
  pub as_many : length (pending_entries table) ≡ table.pending

-- It was done: the log's newest page has the pending rows, which stay pending.
pub record Seals (first : ℕ) (plan : Plan) (table : model.Table) (rose : Bool) (device : Device) (old : RecordLog) (old_f : FlashState) (log : RecordLog) (new : FlashState) : Type 0 where
  pub now : PartProgress model.Table
  pub did : TablePerforms plan rose (seal_within plan LogRing table) device table now
  pub whole : now.end ≡ Whole
  pub counts : SameDevice new now.device
  pub power : new.is_on ≡ true
  pub stands : Stands log new first plan (after_seal plan LogRing table)
  -- byte by byte, void pages too
  pub stand : (before : Ring) → table.log ≡ Some before → PagesStand before (page_in old old_f) stands.ring.ring (page_in log new)

-- An operation of it failed: the flash stands for the log that this leaves, and of the table nothing else is changed.
pub record Breaks (plan : Plan) (table : model.Table) (rose : Bool) (device : Device) (fault : FlashFault) (old : RecordLog) (new : FlashState) : Type 0 where
  pub now : PartProgress model.Table
  pub did : TablePerforms plan rose (seal_within plan LogRing table) device table now
  pub answer : FaultEnds now.end fault new
  pub counts : SameDevice new now.device
  pub ring : Ring
  pub ring_is : now.state.log ≡ Some ring
  pub pages : IsLogRing plan (log_pages now.state) ring (page_in old new)
  pub logged_some : has_rows now.state.log ≡ false → now.state.logged ≡ []
  pub rest : bare_table now.state ≡ bare_table table

abbrev pub SealEnds : ℕ → Plan → model.Table → Bool → Device → RecordLog → FlashState → Result (Unit {0}) FlashFault → RecordLog → FlashState → Type 0
SealEnds first plan table rose device old old_f (Ok done) log new = Seals first plan table rose device old old_f log new
SealEnds first plan table rose device old old_f (Err fault) log new = Breaks plan table rose device fault old new
