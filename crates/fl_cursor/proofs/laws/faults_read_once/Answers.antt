use Rattle.fl_cursor.proofs.Retrying.{read_once}
use Rattle.fl_cursor.proofs.laws.faults_read_once.Goals as goal

pub returns : goal.returns
returns c = read_once
