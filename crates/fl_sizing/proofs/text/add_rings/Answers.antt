use Rattle.std.proofs.Common.{◌++◌, codes}
use Rattle.fl_base.proofs.Chains.{more, last}
use Rattle.fl_sizing.specs.Text.{figure_line}
use Rattle.fl_sizing.proofs.text.add_rings.Goals as goal

pub returns : goal.returns
returns c =
    let l = c.args.text.now.items in
    let s = c.args.sizes.now in
    let pages = figure_line (codes "  index pages wanted ") s.index_pages in
    let blocks = figure_line (codes "  index blocks wanted ") s.index_blocks in
    let blobs = figure_line (codes "  bytes kept of full blob pages ") s.blob_bytes in
    let e2 = more l pages blocks c.add_figure.new.text.items c.add_figure-2.new.text.items c.in_ok-add_figure.ensures c.in_ok-add_figure-2.ensures in
    last c.add_figure-3.result l (pages ++ blocks) blobs c.add_figure-2.new.text.items c.add_figure-3.new.text.items e2 c.add_figure-3.ensures
