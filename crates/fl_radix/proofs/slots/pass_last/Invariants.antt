use Rattle.fl_radix.proofs.PassedSlots.{Passes}
use Rattle.fl_radix.proofs.slots.pass_last.Given as goal

abbrev pub invariant-loop-passed : goal.invariant-loop-passed
invariant-loop-passed l = Passes l.last l.slot l.passed l.initial.starts l.starts

abbrev pub decreases-loop-passed : goal.decreases-loop-passed
decreases-loop-passed l = l.passed
