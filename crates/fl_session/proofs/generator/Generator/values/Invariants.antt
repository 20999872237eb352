use Rattle.fl_session.proofs.LoadedValues.{ValuesSoFar}
use Rattle.fl_session.proofs.generator.Generator.values.Given as goal

abbrev pub invariant-loop-i : goal.invariant-loop-i
invariant-loop-i l = ValuesSoFar l.self.sum l.self.signed.items l.values.items l.i
