use Rattle.fl_ship.proofs.RowsWork.{work-keeps}
use Rattle.fl_ship.proofs.laws.work_keeps.Goals as goal

pub returns : goal.returns
returns c = work-keeps
