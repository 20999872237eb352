use Rattle.fl_sizing.proofs.KeptRows.{keeps-pages}
use Rattle.fl_sizing.proofs.laws.rings_keep.Goals as goal

pub returns : goal.returns
returns c = keeps-pages
