-- What a mount of a table leaves: by the model, by the pages as they are, in memory, of its buffer and of the flash.
use Rattle.std.specs.Prelude.{◌≡◌, ℕ, ◌+◌, ◌*◌, ◌≤◌, true, false, is_ok, Result, Err, OnOk, IfOk, IfErr, IsTrue}
use Rattle.fl_flash.specs.Flash.{FlashState, Goes, page_at}
use Rattle.fl_flash.specs.declared.flash.FlashFault.TheVariants.{PowerLost}
use Rattle.fl_frame.specs.Reads.{FewReads}
use Rattle.fl_model.specs.MountLimit.{mount_limit}
use Rattle.fl_parts.specs.Faults.{MountCausedBy}
use Rattle.fl_parts.specs.IndexMount.{FewRepairs}
use Rattle.fl_parts.specs.Pages.{RestsToMount}
use Rattle.fl_parts.specs.declared.mount_fault.MountFault.{MountFault}
use Rattle.fl_parts.specs.declared.mount_fault.MountFault.TheVariants as mount
use Rattle.fl_parts.specs.Calls.{Over}
use Rattle.fl_table.specs.Memory.{is_running, is_stopped, pending_in, IsPlanned, IsSamePlan, LiesOn, NothingWaits}
use Rattle.fl_table.specs.Mounting.{FindsPages, OutsideStands, RefusesPages, pages_in, rings_in}
use Rattle.fl_table.specs.Outcomes.{MountEnds}
use Rattle.fl_table.specs.declared.counts.Mounted.{Mounted}
use Rattle.fl_table.specs.declared.table.Table.{Table}

-- What a mount means, over a flash that holds the pages of a table of the model of the same plan.
pub record MountsAs {KNOTS SLOTS : ℕ} (t : Table KNOTS SLOTS) (old : FlashState) (result : Result Mounted MountFault) (now : Table KNOTS SLOTS) (new : FlashState) : Type 0 where
  -- it ends as the model's mount of the rings
  pub ends : Over old new (λ first plan table. IsPlanned t first plan) (λ first plan table rose device. RestsToMount old first plan table → MountEnds first plan table rose device result now new)
  -- if index entries are full, it makes at most the model's number of reads, however it ends
  pub limit : Over old new (λ first plan table. IsPlanned t first plan) (λ first plan table rose device. RestsToMount old first plan table → plan.full_index ≡ true → new.work.reads ≤ old.work.reads + mount_limit plan table)

-- What it found, where the flash tells its bytes, whatever these are.
pub record MountsBy {KNOTS SLOTS : ℕ} (t : Table KNOTS SLOTS) (old : FlashState) (result : Result Mounted MountFault) (now : Table KNOTS SLOTS) (new : FlashState) : Type 0 where
  -- after an Ok nothing is wrong with the kept pages, and the table knows what they tell
  pub found : IfOk result (λ mounted. IsTrue old.media.tells → FindsPages t old mounted now new)
  -- else this is the first that is wrong
  pub refused : IfErr result (λ e. IsTrue old.media.tells → RefusesPages t old e new)

-- What it leaves in memory.
pub record MountsInMemory {KNOTS SLOTS : ℕ} (t : Table KNOTS SLOTS) (result : Result Mounted MountFault) (now : Table KNOTS SLOTS) (new : FlashState) : Type 0 where
  -- what no call changes is the same, and the table lies on the flash that is left
  pub same : IsSamePlan t now
  pub lies : LiesOn now new
  -- it runs exactly after an Ok, and is stopped in no case
  pub mounted : is_running now ≡ is_ok result
  pub calm : is_stopped now ≡ false
  -- no row is pending; after an Ok nothing waits at all
  pub none : pending_in now ≡ 0
  pub empty : OnOk result (NothingWaits now)

-- What it does to its flash.
pub record MountsFlash {KNOTS SLOTS : ℕ} (t : Table KNOTS SLOTS) (old : FlashState) (result : Result Mounted MountFault) (new : FlashState) : Type 0 where
  -- its shape, its place and the bytes around it on the medium stay, and its power where no cut is armed
  pub goes : Goes old new
  -- after an Ok the power is on, if it was before
  pub power : OnOk result (old.is_on ≡ true → new.is_on ≡ true)
  -- each page outside the rings stands, where the flash tells its bytes
  pub outside : IsTrue old.media.tells → OutsideStands t (page_at old) (page_at new)
  -- at most four reads for each page of the rings, where it does
  pub reads : IsTrue old.media.tells → FewReads (4 * pages_in t) old new
  -- one program and one erase in each ring at most
  pub repairs : FewRepairs (rings_in t) old new
  -- a failure has its cause
  pub cause : IfErr result (λ e. MountCausedBy old e new)
  -- with the power off that is the answer, and the flash stays
  pub off : old.is_on ≡ false → (result ≡ Err (mount.Flash PowerLost)) × (new ≡ old)
