use Rattle.fl_model.proofs.PutAmongTables.{puts-at}
use Rattle.fl_model.proofs.tables_put.Goals as goal

pub returns : goal.returns
returns c = puts-at
