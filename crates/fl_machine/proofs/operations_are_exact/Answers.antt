use Rattle.fl_machine.proofs.Operations.{exact}
use Rattle.fl_machine.proofs.operations_are_exact.Goals as goal

pub returns : goal.returns
returns c = exact
