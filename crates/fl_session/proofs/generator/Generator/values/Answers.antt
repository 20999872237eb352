use Rattle.fl_session.proofs.LoadedValues.{values_so_far-all}
use Rattle.fl_session.proofs.generator.Generator.values.Goals as goal

pub returns : goal.returns
returns c = λ columns seed i stands. values_so_far-all _ columns seed i _ c.args.self.now (rw c.as_slice-is_signed-items.ensures.value at c.loop-i-test.false) c.loop-i.invariant stands
