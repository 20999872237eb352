use Rattle.std.proofs.Common.{◌++◌, codes}
use Rattle.fl_base.proofs.Chains.{more}
use Rattle.fl_sizing.specs.Text.{figure_line}
use Rattle.fl_shell.proofs.describe.add_counts.Goals as goal

pub returns-clause-text : goal.returns-clause-text
returns-clause-text c =
    let l = c.args.text.now in
    let counts = c.args.counts.now in
    let rows = figure_line (codes "  rows kept ") counts.rows in
    let pending = figure_line (codes "  rows pending ") counts.pending in
    let kept = figure_line (codes "  pages kept ") counts.pages in
    let voids = figure_line (codes "  pages void ") counts.voids in
    let free = figure_line (codes "  pages free ") c.saturating_sub.result in
    let e2 = more l rows pending c.add_figure.new.text c.add_figure-2.new.text c.add_figure.ensures.text (rw c.from.ensures at c.add_figure-2.ensures.text) in
    let e3 = more l (rows ++ pending) kept c.add_figure-2.new.text c.add_figure-3.new.text e2 (rw c.from-kept.ensures at c.add_figure-3.ensures.text) in
    let e4 = more l (rows ++ pending ++ kept) voids c.add_figure-3.new.text c.add_figure-4.new.text e3 (rw c.from-2.ensures at c.add_figure-4.ensures.text) in
    let e5 = more l (rows ++ pending ++ kept ++ voids) free c.add_figure-4.new.text c.add_figure-5.new.text e4 c.add_figure-5.ensures.text in
    cc (e5, c.saturating_sub.ensures, c.from-kept.ensures)
