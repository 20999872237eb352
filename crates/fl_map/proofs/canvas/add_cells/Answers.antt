use Rattle.std.proofs.Common.{sym}
use Rattle.std.proofs.lemmas.List.{append-nil}
use Rattle.fl_map.proofs.Ends.{none-on}
use Rattle.fl_map.proofs.canvas.add_cells.Goals as goal

pub loop-i-init : goal.loop-i-init
loop-i-init c = sym (append-nil c.args.text.now.items)

pub add_cell-requires-clause-empty : goal.add_cell-requires-clause-empty
add_cell-requires-clause-empty c = c.new-line.ensures

pub add_cell-requires-clause-some : goal.add_cell-requires-clause-some
add_cell-requires-clause-some c = c.requires.some

pub add_cell-requires-clause-top : goal.add_cell-requires-clause-top
add_cell-requires-clause-top c = c.requires.top

pub returns-in_err-extend_from_slice : goal.returns-in_err-extend_from_slice
returns-in_err-extend_from_slice c = none-on c.from_residual.result _ c.from_residual.ensures.0
