-- The mount of a log, over any bytes and over a flash that stands for the log of a table that isn't mounted.
use Rattle.std.specs.Prelude.{◌≡◌, ◌⊎◌, ℕ, Bool, true, false, Option, Some, IsTrue, Result, Ok, Err, []}
use Rattle.fl_flash.specs.Flash.{FlashState, page_at}
use Rattle.fl_flash.specs.declared.flash.FlashFault.{FlashFault}
use Rattle.fl_flash.specs.declared.flash.FlashFault.TheVariants.{Media}
use Rattle.fl_model.specs.Bare.{bare_table}
use Rattle.fl_model.specs.Mount.{renumber}
use Rattle.fl_model.specs.Record.{Plan}
use Rattle.fl_model.specs.Ring.{Ring}
use Rattle.fl_model.specs.Table as model
use Rattle.fl_model.specs.Table.{LogRing, has_rows, log_pages}
use Rattle.fl_model.specs.Work.{Device, Whole, PartProgress}
use Rattle.fl_model.specs.Within.{TablePerforms, TableUnreads, repair_within}
use Rattle.fl_frame.specs.Device.{SameDevice}
use Rattle.fl_ring.specs.Mounting.{HasNumbers}
use Rattle.fl_ring.specs.Newest.{NewestAmong}
use Rattle.fl_ring.specs.Place.{next_of, oldest_of}
use Rattle.fl_ring.specs.declared.newest.NewestPage.{NewestPage}
use Rattle.fl_ring.specs.declared.fault.RingFault.{RingFault}
use Rattle.fl_ring.specs.declared.fault.RingFault.TheVariants.{Flash, BadHead, BadGap, BadPage, NoNumber}
use Rattle.fl_ring.specs.declared.ring.Ring as memory
use Rattle.fl_parts.specs.Failing.{FaultEnds}
use Rattle.fl_rlc.specs.Memory.{IsPlanned, log_shape, page_in}
use Rattle.fl_rlc.specs.Pages.{IsLogRing}
use Rattle.fl_rlc.specs.Standing.{HasRing}
use Rattle.fl_rlc.specs.declared.log.RecordLog.{RecordLog}

-- The ring that its pages give has the numbers in memory, and the newest of the pages that it keeps is this one.
pub record Finds (old : RecordLog) (old_f : FlashState) (newest : Option NewestPage) (log : RecordLog) (new : FlashState) : Type 0 where
  pub ring : memory.Ring
  pub ring_is : log.ring ≡ Some ring
  pub numbers : HasNumbers old_f (log_shape old) 0 ring new
  pub newest_is : IsTrue old_f.media.tells → NewestAmong (page_at new) (log_shape old) (oldest_of ring) (next_of ring) newest

-- a flash stands for the log of a table that isn't mounted
pub record Rests (log : RecordLog) (f : FlashState) (first : ℕ) (plan : Plan) (table : model.Table) : Type 0 where
  pub planned : IsPlanned log first plan
  pub ring : Ring
  pub ring_is : table.log ≡ Some ring
  pub pages : IsLogRing plan (log_pages table) ring (page_in log f)
  pub logged_some : has_rows table.log ≡ false → table.logged ≡ []

-- It ended well: the ring has its numbers, and all its repairs were done. Nothing else of the table is changed.
pub record MountsWell (first : ℕ) (plan : Plan) (table : model.Table) (rose : Bool) (device : Device) (log : RecordLog) (new : FlashState) : Type 0 where
  pub now : PartProgress model.Table
  pub did : TablePerforms plan rose (repair_within plan LogRing (renumber plan LogRing table)) device (renumber plan LogRing table) now
  pub whole : now.end ≡ Whole
  pub counts : SameDevice new now.device
  pub power : new.is_on ≡ true
  pub ring : HasRing log new first plan now.state
  pub rest : bare_table now.state ≡ bare_table table

-- It failed in an operation of a repair, or in a read: what was repaired until then stays.
pub record MountsBadly (plan : Plan) (table : model.Table) (rose : Bool) (device : Device) (fault : FlashFault) (old : RecordLog) (new : FlashState) : Type 0 where
  pub now : PartProgress model.Table
  pub did : (TablePerforms plan rose (repair_within plan LogRing (renumber plan LogRing table)) device (renumber plan LogRing table) now × FaultEnds now.end fault new)
      ⊎ (TableUnreads plan rose (repair_within plan LogRing (renumber plan LogRing table)) device (renumber plan LogRing table) now × (fault ≡ Media))
  pub counts : SameDevice new now.device
  pub ring : Ring
  pub ring_is : now.state.log ≡ Some ring
  pub pages : IsLogRing plan (log_pages now.state) ring (page_in old new)
  pub logged_some : has_rows now.state.log ≡ false → now.state.logged ≡ []
  pub rest : bare_table now.state ≡ bare_table table

abbrev pub MountEnds : ℕ → Plan → model.Table → Bool → Device → RecordLog → Result (Option NewestPage) RingFault → RecordLog → FlashState → Type 0
MountEnds first plan table rose device old (Ok newest) log new = MountsWell first plan table rose device log new
MountEnds first plan table rose device old (Err (Flash fault)) log new = MountsBadly plan table rose device fault old new
MountEnds first plan table rose device old (Err (BadHead heads)) log new = ⊥
MountEnds first plan table rose device old (Err (BadGap page)) log new = ⊥
MountEnds first plan table rose device old (Err (BadPage page wanted found)) log new = ⊥
MountEnds first plan table rose device old (Err (NoNumber at_least)) log new = ⊥
