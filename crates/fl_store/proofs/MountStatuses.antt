-- Which statuses tell that a mount failed, and why.
use Rattle.std.proofs.Common.{◌≡◌, ℕ}
use Rattle.fl_base.specs.Causes.{Rose}
use Rattle.fl_flash.specs.Flash.{FlashState}
use Rattle.fl_flash.specs.declared.flash.FlashFault.TheVariants.{PowerLost, Media}
use Rattle.fl_frame.proofs.WatchedInTurn.{never-lost}
use Rattle.fl_image.specs.declared.status.ToolStatus.{ToolStatus}
use Rattle.fl_image.specs.declared.status.ToolStatus.TheVariants.{Device, BadImage}
use Rattle.fl_parts.specs.Faults.{MountCausedBy}
use Rattle.fl_parts.specs.declared.mount_fault.MountFault.{MountFault}
use Rattle.fl_parts.specs.declared.mount_fault.MountFault.TheVariants as mount
use Rattle.fl_store.specs.Status.{mount_status}
use Rattle.fl_frame.specs.Causes.{IsUnarmed}

-- what holds of each of the statuses of a mount
pub by-mount : (P : ToolStatus → Type 0) (e : MountFault) (at : ℕ) → P Device → P (BadImage at) → P (mount_status e at)
by-mount P (mount.Flash e) at device bad = device
by-mount P fault at device bad = bad

-- it tells the device only where the medium failed, since no power is lost
pub mount-rose : (old new : FlashState) (e : MountFault) (at : ℕ) → IsUnarmed old → mount_status e at ≡ Device → MountCausedBy old e new → Rose old.media.faults new.media.faults
mount-rose old new (mount.Flash Media) at unarmed is cause = cause
mount-rose old new (mount.Flash PowerLost) at unarmed is cause = absurd (never-lost old new unarmed cause)
mount-rose old new fault at unarmed is cause = absurd (cc is)

-- .. and a bad table only by its place
pub mount-place : (e : MountFault) (at table : ℕ) → mount_status e at ≡ BadImage table → at ≡ table
mount-place e at table = by-mount (λ s. s ≡ BadImage table → at ≡ table) e at (λ is. absurd (cc is)) (λ is. cc is)
