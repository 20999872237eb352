use Rattle.fl_ship.proofs.Steps.{ships-are-steps}
use Rattle.fl_ship.proofs.laws.ships_are_steps.Goals as goal

pub returns : goal.returns
returns c = ships-are-steps
