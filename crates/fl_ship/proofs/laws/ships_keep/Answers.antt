use Rattle.fl_ship.proofs.KeptRecords.{ships-keep}
use Rattle.fl_ship.proofs.laws.ships_keep.Goals as goal

pub returns : goal.returns
returns c = ships-keep
