use Rattle.fl_ship.proofs.Lasts.{reach-the-end}
use Rattle.fl_ship.proofs.laws.ships_reach_the_end.Goals as goal

pub returns : goal.returns
returns c = reach-the-end
