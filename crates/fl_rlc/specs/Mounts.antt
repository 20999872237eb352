-- What a mount of a table that may have a log leaves, in memory and of the flash.
use Rattle.std.specs.Prelude.{◌≡◌, ℕ, ◌*◌, false, is_ok, Result, Err, OnOk, IfErr, IsTrue, true}
use Rattle.fl_flash.specs.Flash.{FlashState, Goes, page_at}
use Rattle.fl_flash.specs.declared.flash.FlashFault.TheVariants.{PowerLost}
use Rattle.fl_frame.specs.Reads.{FewReads}
use Rattle.fl_parts.specs.Faults.{MountCausedBy}
use Rattle.fl_parts.specs.IndexMount.{FewRepairs}
use Rattle.fl_parts.specs.declared.mount_fault.MountFault.{MountFault}
use Rattle.fl_parts.specs.declared.mount_fault.MountFault.TheVariants as mount
use Rattle.fl_table.specs.declared.counts.Mounted.{Mounted}
use Rattle.fl_rlc.specs.Mounting.{pages_in}
use Rattle.fl_rlc.specs.Table.{is_running, is_stopped, repairs_in, IsSamePlan, LiesOn, NothingWaits, OutsideStands}
use Rattle.fl_rlc.specs.declared.table.LoggedTable.{LoggedTable}

-- What it leaves in memory.
pub record MountsInMemory {KNOTS SLOTS : ℕ} (t : LoggedTable KNOTS SLOTS) (result : Result Mounted MountFault) (now : LoggedTable KNOTS SLOTS) (new : FlashState) : Type 0 where
  -- what no call changes is the same, and the table lies on the flash that is left
  pub same : IsSamePlan t now
  pub lies : LiesOn now new
  -- it runs exactly after an Ok, and is stopped in no case
  pub mounted : is_running now ≡ is_ok result
  pub calm : is_stopped now ≡ false
  -- after an Ok nothing waits
  pub empty : OnOk result (NothingWaits now)

-- What it does to its flash.
pub record MountsFlash {KNOTS SLOTS : ℕ} (t : LoggedTable KNOTS SLOTS) (old : FlashState) (result : Result Mounted MountFault) (new : FlashState) : Type 0 where
  -- its shape, its place and the bytes around it on the medium stay, and its power where no cut is armed
  pub goes : Goes old new
  -- after an Ok the power is on, if it was before
  pub power : OnOk result (old.is_on ≡ true → new.is_on ≡ true)
  -- each page outside the rings stands, where the flash tells its bytes
  pub outside : IsTrue old.media.tells → OutsideStands t (page_at old) (page_at new)
  -- at most four reads for each page of the rings in all, where it tells them
  pub reads : IsTrue old.media.tells → FewReads (4 * pages_in t) old new
  -- a program and an erase for each ring at most, and with a log, whose rows may become a page, two more for each other one
  pub repairs : FewRepairs (repairs_in t) old new
  -- a failure has its cause
  pub cause : IfErr result (λ e. MountCausedBy old e new)
  -- with the power off that is the answer, and the flash stays
  pub off : old.is_on ≡ false → (result ≡ Err (mount.Flash PowerLost)) × (new ≡ old)
