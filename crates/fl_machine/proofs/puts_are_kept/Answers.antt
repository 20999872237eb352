use Rattle.fl_machine.proofs.KeptPuts.{keeps-puts}
use Rattle.fl_machine.proofs.puts_are_kept.Goals as goal

pub returns : goal.returns
returns c = keeps-puts
