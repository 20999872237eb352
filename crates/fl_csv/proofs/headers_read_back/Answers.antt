use Rattle.fl_csv.proofs.TextBack.{header-back}
use Rattle.fl_csv.proofs.headers_read_back.Goals as goal

pub returns : goal.returns
returns c = header-back
