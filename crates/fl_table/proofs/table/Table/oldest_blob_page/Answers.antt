use Rattle.std.proofs.Common.{◌∙◌}
use Rattle.fl_table.proofs.RingsKept.{oldest-page-is}
use Rattle.fl_table.proofs.table.Table.oldest_blob_page.Goals as goal

pub returns-clause-exact : goal.returns-clause-exact
returns-clause-exact g c = c.oldest_page.ensures

pub returns-clause-stands : goal.returns-clause-stands
returns-clause-stands g c = λ f first plan table stands. c.oldest_page.ensures ∙ oldest-page-is c.args.self.now f first plan table stands
