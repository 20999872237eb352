use Rattle.fl_shipped.proofs.RunsGrow.{ascend}
use Rattle.fl_shipped.proofs.keys_ascend.Goals as goal

pub returns : goal.returns
returns c = ascend
