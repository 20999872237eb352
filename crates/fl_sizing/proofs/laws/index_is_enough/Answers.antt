use Rattle.fl_sizing.proofs.KeptRows.{enough}
use Rattle.fl_sizing.proofs.laws.index_is_enough.Goals as goal

pub returns : goal.returns
returns c = enough
