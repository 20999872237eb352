use Rattle.fl_command.proofs.OneLine.{exit-line}
use Rattle.fl_command.proofs.laws.failures_have_one_line.Goals as goal

pub returns : goal.returns
returns c = exit-line
