use Rattle.fl_machine.proofs.Costs.{costs-told}
use Rattle.fl_machine.proofs.costs_are_told.Goals as goal

pub returns : goal.returns
returns c = costs-told
