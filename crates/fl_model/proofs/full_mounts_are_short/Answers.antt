use Rattle.fl_model.proofs.FullIndex.{mounts-short}
use Rattle.fl_model.proofs.full_mounts_are_short.Goals as goal

pub returns : goal.returns
returns c = mounts-short
