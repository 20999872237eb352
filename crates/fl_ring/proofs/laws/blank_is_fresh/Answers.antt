use Rattle.fl_ring.proofs.Fresh.{fresh_on, fresh_numbered}
use Rattle.fl_ring.proofs.laws.blank_is_fresh.Goals as goal

pub returns : goal.returns
returns c = λ r page shape. record { on = fresh_on r page shape; numbered = fresh_numbered }
