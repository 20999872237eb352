use Rattle.fl_ring.proofs.WornCalls.{calls_alike}
use Rattle.fl_ring.proofs.laws.calls_wear_alike.Goals as goal

pub returns : goal.returns
returns c = calls_alike
