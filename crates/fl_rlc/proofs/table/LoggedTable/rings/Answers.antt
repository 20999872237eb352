use Rattle.std.proofs.Common.{◌∙◌}
use Rattle.fl_parts.proofs.Sizes.{table-fits}
use Rattle.fl_rlc.proofs.RingsKept.{rings-told, logged-rings-are}
use Rattle.fl_rlc.proofs.table.LoggedTable.rings.Goals as goal

pub returns-clause-exact : goal.returns-clause-exact
returns-clause-exact g c = rings-told c.args.self.now c.rings.result c.log_pages.result c.rings.ensures.exact c.log_pages.ensures

pub returns-clause-stands : goal.returns-clause-stands
returns-clause-stands g c = λ f first plan table stands.
    rings-told c.args.self.now c.rings.result c.log_pages.result c.rings.ensures.exact c.log_pages.ensures ∙ logged-rings-are c.args.self.now f first plan table stands

pub rings-requires : goal.rings-requires
rings-requires g c = table-fits g.row.KNOTS g.row.SLOTS c.args.self.now.table.few_knots c.args.self.now.table.few_slots
