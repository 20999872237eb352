use Rattle.std.proofs.Common.{◌++◌, codes}
use Rattle.fl_base.proofs.Chains.{more, last}
use Rattle.fl_sizing.specs.Text.{figure_line, words_line}
use Rattle.fl_sizing.proofs.text.add_device.Goals as goal

pub returns : goal.returns
returns c =
    let l = c.args.text.now.items in
    let name = words_line (codes "device") in
    let blocks = figure_line (codes "  blocks ") c.args.blocks in
    let wanted = figure_line (codes "  blocks wanted ") c.args.wanted in
    let memory = figure_line (codes "  bytes of memory ") c.args.memory in
    let e2 = more l name blocks c.add_words.new.text.items c.add_figure.new.text.items c.in_ok-add_words.ensures c.in_ok-add_figure.ensures in
    let e3 = more l (name ++ blocks) wanted c.add_figure.new.text.items c.add_figure-2.new.text.items e2 c.in_ok-add_figure-2.ensures in
    last c.add_figure-3.result l (name ++ blocks ++ wanted) memory c.add_figure-2.new.text.items c.add_figure-3.new.text.items e3 c.add_figure-3.ensures
