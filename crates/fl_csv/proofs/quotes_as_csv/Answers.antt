use Rattle.fl_csv.proofs.Places.{quotes-same}
use Rattle.fl_csv.proofs.quotes_as_csv.Goals as goal

pub returns : goal.returns
returns c = quotes-same
