use Rattle.fl_model.proofs.ShipWork.{keeps}
use Rattle.fl_model.proofs.ship_keeps.Goals as goal

pub returns : goal.returns
returns c = keeps
