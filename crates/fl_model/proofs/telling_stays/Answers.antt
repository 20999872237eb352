use Rattle.fl_model.proofs.EntriesStayTold.{telling-stays}
use Rattle.fl_model.proofs.telling_stays.Goals as goal

pub returns : goal.returns
returns c = telling-stays
