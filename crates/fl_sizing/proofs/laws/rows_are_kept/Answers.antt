use Rattle.fl_sizing.proofs.KeptRows.{rows-stay}
use Rattle.fl_sizing.proofs.laws.rows_are_kept.Goals as goal

pub returns : goal.returns
returns c = rows-stay
