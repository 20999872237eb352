-- The status of a job whose tables aren't mounted.
use Rattle.std.specs.Prelude.{ℕ}
use Rattle.fl_image.specs.declared.status.ToolStatus.{ToolStatus}
use Rattle.fl_image.specs.declared.status.ToolStatus.TheVariants.{BadImage, Device}
use Rattle.fl_parts.specs.declared.mount_fault.MountFault.{MountFault}
use Rattle.fl_parts.specs.declared.mount_fault.MountFault.TheVariants as mount

-- the status of a job whose tables aren't mounted, since this one isn't
abbrev pub mount_status : MountFault → ℕ → ToolStatus
mount_status (mount.Flash e) at = Device
mount_status bad at = BadImage at
