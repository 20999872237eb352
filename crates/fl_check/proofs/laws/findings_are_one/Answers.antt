use Rattle.fl_check.proofs.OneFinding.{one_finding}
use Rattle.fl_check.proofs.laws.findings_are_one.Goals as goal

pub returns : goal.returns
returns c = λ config log page a b is_a is_b. one_finding config log page a b is_a is_b
