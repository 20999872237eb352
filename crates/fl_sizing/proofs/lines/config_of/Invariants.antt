use Rattle.std.proofs.Common.{length}
use Rattle.fl_sizing.proofs.ConfigLines.{Passed}
use Rattle.fl_sizing.proofs.lines.config_of.Given as goal

abbrev pub invariant-loop-line : goal.invariant-loop-line
invariant-loop-line l =
    (goal.iterator-loop-line).can_next l.line-iterator
    × (goal.iterator-loop-line).is_finite l.line-iterator
    × Passed l.text l.config (length l.yielded) l.number
