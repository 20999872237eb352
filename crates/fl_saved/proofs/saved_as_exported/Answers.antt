use Rattle.fl_saved.proofs.Saved.{saved-as-exported}
use Rattle.fl_saved.proofs.saved_as_exported.Goals as goal

pub returns : goal.returns
returns c = saved-as-exported
