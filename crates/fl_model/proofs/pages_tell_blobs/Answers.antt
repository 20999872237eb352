use Rattle.fl_model.proofs.FullIndex.{pages-tell}
use Rattle.fl_model.proofs.pages_tell_blobs.Goals as goal

pub returns : goal.returns
returns c = pages-tell
