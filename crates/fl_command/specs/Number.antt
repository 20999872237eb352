-- The number of an exit, and the exit of what couldn't be handed out.
use Rattle.std.specs.Prelude.{ℕ, None}
use Rattle.fl_image.specs.Number as job
use Rattle.fl_image.specs.declared.status.ToolStatus.TheVariants as job_status
use Rattle.fl_ship.specs.Number as ship
use Rattle.fl_ship.specs.declared.status.ShipStatus.TheVariants as ship_status
use Rattle.fl_sizing.specs.Number as plan
use Rattle.fl_sizing.specs.declared.end.PlanStatus.TheVariants as plan_status
use Rattle.fl_ends.specs.RunNumber as run
use Rattle.fl_ends.specs.declared.run.Status.TheVariants as run_status
use Rattle.fl_ends.specs.ShellNumber as shell
use Rattle.fl_ends.specs.declared.shell.ShellStatus.TheVariants as shell_status
use Rattle.fl_command.specs.declared.exit.Exit.{Exit}
use Rattle.fl_command.specs.declared.exit.Exit.TheVariants.{Run, Shell, Plan, Job, Salvage, Ship, Words, Help, InUse, CopyInUse, CopyIsImage}

-- that of the run's, the plan's, the job's or the ship's status; other words have that of a run's
abbrev pub number_of : Exit → ℕ
number_of (Run status) = run.number_of status
number_of (Shell end) = shell.number_of end.status
number_of (Plan status) = plan.number_of status
number_of (Job end) = job.number_of end.status
number_of (Salvage end) = job.number_of end.status
number_of (Ship status) = ship.number_of status
number_of Words = 1
number_of Help = 0
number_of InUse = 20
number_of CopyInUse = 20
number_of CopyIsImage = 20

-- the replies can't be written
abbrev pub unwritten : Exit → Exit
unwritten (Run status) = Run run_status.OutWrite
unwritten (Shell end) = Shell (record end { status = shell_status.OutWrite })
unwritten (Plan status) = Plan plan_status.OutWrite
unwritten (Job end) = Job (record end { status = job_status.OutWrite; kept = None })
unwritten (Salvage end) = Salvage (record end { status = job_status.OutWrite })
unwritten (Ship status) = Ship ship_status.OutWrite
unwritten Words = Words
unwritten Help = Run run_status.OutWrite
unwritten InUse = InUse
unwritten CopyInUse = CopyInUse
unwritten CopyIsImage = CopyIsImage
