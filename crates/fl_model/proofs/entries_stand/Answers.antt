use Rattle.fl_model.proofs.FullIndex.{entries-stand}
use Rattle.fl_model.proofs.entries_stand.Goals as goal

pub returns : goal.returns
returns c = entries-stand
