use Rattle.fl_machine.proofs.Costs.{promised-costs-told}
use Rattle.fl_machine.proofs.promised_costs_are_told.Goals as goal

pub returns : goal.returns
returns c = promised-costs-told
