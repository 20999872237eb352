use Rattle.std.proofs.Common.{codes, ap, sym}
use Rattle.fl_base.proofs.Chains.{more}
use Rattle.fl_sizing.specs.Text.{figure_line}
use Rattle.fl_sizing.specs.declared.sizes.TableSizes.{TableSizes}
use Rattle.fl_shell.proofs.describe.add_sizes.Goals as goal

pub returns-clause-text : goal.returns-clause-text
returns-clause-text c = λ label.
    let sizes = c.of-sizes.result in
    let page = ap (λ (s : TableSizes). s.rows_per_page) (c.of-sizes.ensures.exact label) in
    let kept = ap (λ (s : TableSizes). s.rows_kept) (c.of-sizes.ensures.exact label) in
    let e = more c.args.text.now (figure_line (codes "  rows a page ") sizes.rows_per_page) (figure_line (codes "  rows always kept of full pages ") sizes.rows_kept) c.add_figure.new.text c.add_figure-2.new.text c.add_figure.ensures.text c.add_figure-2.ensures.text in
    rw (sym kept, sym page) (rw c.requires.empty at e)
