use Rattle.std.proofs.Common.{◌≡◌, ◌++◌}
use Rattle.fl_map.specs.Drawn.{cells_to}
use Rattle.fl_map.proofs.canvas.add_cells.Given as goal

abbrev pub invariant-loop-i : goal.invariant-loop-i
invariant-loop-i l = l.text.items ≡ l.initial.text.items ++ cells_to l.drawing l.note l.top l.states l.i
