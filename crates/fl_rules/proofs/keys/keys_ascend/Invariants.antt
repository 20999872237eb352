use Rattle.std.proofs.Common.{◌↔◌, drop}
use Rattle.fl_page.specs.Steps.{Ascends}
use Rattle.fl_page.specs.View.{rows_of}
use Rattle.fl_rules.proofs.keys.keys_ascend.Given as goal

abbrev pub invariant-loop-i : goal.invariant-loop-i
invariant-loop-i g l = Ascends l.initial.last (rows_of l.view) ↔ Ascends l.last (drop l.i (rows_of l.view))
