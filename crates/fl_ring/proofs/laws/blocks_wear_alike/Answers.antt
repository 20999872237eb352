use Rattle.fl_ring.proofs.EvenWear.{wears_alike}
use Rattle.fl_ring.proofs.laws.blocks_wear_alike.Goals as goal

pub returns : goal.returns
returns c = wears_alike
