use Rattle.std.proofs.Common.{◌++◌, codes}
use Rattle.fl_base.proofs.Chains.{more, last}
use Rattle.fl_sizing.specs.Text.{figure_line, days_text}
use Rattle.fl_sizing.proofs.text.add_rows.Goals as goal

pub returns : goal.returns
returns c =
    let l = c.args.text.now.items in
    let s = c.args.sizes.now in
    let row = figure_line (codes "  bytes a row ") s.row_bytes in
    let page = figure_line (codes "  rows a page ") s.rows_per_page in
    let pages = figure_line (codes "  pages always kept ") s.pages_kept in
    let kept = figure_line (codes "  rows kept of full pages ") s.rows_kept in
    let e2 = more l row page c.add_figure.new.text.items c.add_figure-2.new.text.items c.in_ok-add_figure.ensures c.in_ok-add_figure-2.ensures in
    let e3 = more l (row ++ page) pages c.add_figure-2.new.text.items c.add_figure-3.new.text.items e2 c.in_ok-add_figure-3.ensures in
    let e4 = more l (row ++ page ++ pages) kept c.add_figure-3.new.text.items c.add_figure-4.new.text.items e3 c.in_ok-add_figure-4.ensures in
    last c.add_days.result l (row ++ page ++ pages ++ kept) (days_text c.args.interval s.rows_kept) c.add_figure-4.new.text.items c.add_days.new.text.items e4 c.add_days.ensures
