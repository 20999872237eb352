use Rattle.fl_machine.proofs.Determined.{determined}
use Rattle.fl_machine.proofs.is_determined.Goals as goal

pub returns : goal.returns
returns c = determined
