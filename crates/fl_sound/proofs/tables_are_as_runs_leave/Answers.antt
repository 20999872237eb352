use Rattle.fl_sound.proofs.AtRest.{as-left}
use Rattle.fl_sound.proofs.tables_are_as_runs_leave.Goals as goal

pub returns : goal.returns
returns c = as-left
