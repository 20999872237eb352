use Rattle.fl_machine.proofs.Faults.{faults-caused}
use Rattle.fl_machine.proofs.faults_have_causes.Goals as goal

pub returns : goal.returns
returns c = faults-caused
