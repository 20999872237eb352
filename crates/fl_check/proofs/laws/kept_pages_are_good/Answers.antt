use Rattle.fl_check.proofs.KeptPages.{good}
use Rattle.fl_check.proofs.laws.kept_pages_are_good.Goals as goal

pub returns : goal.returns
returns c = good
