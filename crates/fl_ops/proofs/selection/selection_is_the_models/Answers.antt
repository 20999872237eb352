use Rattle.fl_ops.specs.Select.{comparison_of}
use Rattle.fl_ops.proofs.Selections.{records_of-filter}
use Rattle.fl_ops.proofs.selection.selection_is_the_models.Goals as goal

pub returns-clause-records : goal.returns-clause-records
returns-clause-records g c = λ contents. records_of-filter (comparison_of c.args.rows.now) (g.R.Rows.left c.args.rows.now.rows contents)
