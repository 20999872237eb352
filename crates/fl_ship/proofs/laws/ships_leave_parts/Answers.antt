use Rattle.fl_ship.proofs.Lasts.{leave-parts}
use Rattle.fl_ship.proofs.laws.ships_leave_parts.Goals as goal

pub returns : goal.returns
returns c = leave-parts
