use Rattle.fl_csv.proofs.ReadBack.{line-back}
use Rattle.fl_csv.proofs.lines_read_back.Goals as goal

pub returns : goal.returns
returns c = line-back
