use Rattle.std.proofs.Common.{refl, arith}
use Rattle.fl_plan.specs.Refusal.{nameless}
use Rattle.fl_sizing.proofs.Rows.{row-some}
use Rattle.fl_sizing.proofs.sizes.rows_per_page.Goals as goal

pub nonzero_div-result : goal.nonzero_div-result
nonzero_div-result c =
    let some = row-some nameless c.args.config.now in
    omega (arith, some, c.row_len.ensures.exact nameless, c.from-2.ensures)

pub returns-clause-exact : goal.returns-clause-exact
returns-clause-exact c = λ label. rw (c.from.ensures, c.from-2.ensures, c.row_len.ensures.exact label) refl
