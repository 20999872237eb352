use Rattle.fl_model.proofs.Fresh.{new-stand}
use Rattle.fl_model.proofs.new_tables_stand.Goals as goal

pub returns : goal.returns
returns c = new-stand
