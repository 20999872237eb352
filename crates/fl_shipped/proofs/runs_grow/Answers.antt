use Rattle.fl_shipped.proofs.RunsGrow.{grow}
use Rattle.fl_shipped.proofs.runs_grow.Goals as goal

pub returns : goal.returns
returns c = grow
