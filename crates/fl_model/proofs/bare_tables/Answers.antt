use Rattle.fl_model.proofs.Bare.{bare-tables}
use Rattle.fl_model.proofs.bare_tables.Goals as goal

pub returns : goal.returns
returns c = bare-tables
