use Rattle.fl_model.proofs.CopiesAreParts.{ships-all}
use Rattle.fl_model.proofs.ships_all.Goals as goal

pub returns : goal.returns
returns c = ships-all
