use Rattle.fl_csv.proofs.TextBack.{text-back}
use Rattle.fl_csv.proofs.texts_read_back.Goals as goal

pub returns : goal.returns
returns c = text-back
