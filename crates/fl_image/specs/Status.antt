-- The status of a job that was done.
use Rattle.std.specs.Prelude.{Bool, true, false}
use Rattle.fl_image.specs.declared.status.ToolStatus.{ToolStatus}
use Rattle.fl_image.specs.declared.status.ToolStatus.TheVariants.{Done}

-- the job was done
abbrev pub is_done : ToolStatus → Bool
is_done Done = true
is_done other = false
