use Rattle.std.proofs.Common.{◌∙◌}
use Rattle.fl_table.proofs.SealAnswers.{writer-count}
use Rattle.fl_table.proofs.table.Table.pending_rows.Goals as goal

pub returns-clause-exact : goal.returns-clause-exact
returns-clause-exact g c = c.count.ensures

pub returns-clause-stands : goal.returns-clause-stands
returns-clause-stands g c = λ f first plan table stands. c.count.ensures ∙ writer-count c.args.self.now f first plan table stands
