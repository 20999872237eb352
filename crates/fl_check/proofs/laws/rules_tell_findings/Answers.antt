use Rattle.fl_check.proofs.FirstRules.{first_rules}
use Rattle.fl_check.proofs.laws.rules_tell_findings.Goals as goal

pub returns : goal.returns
returns c = λ config log page rules finding are is. first_rules config log page rules finding are is
