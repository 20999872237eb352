use Rattle.fl_model.proofs.CopiesAreParts.{ships-parts}
use Rattle.fl_model.proofs.ships_parts.Goals as goal

pub returns : goal.returns
returns c = ships-parts
