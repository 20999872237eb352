use Rattle.fl_store.proofs.HeldStores.{stores-hold}
use Rattle.fl_store.proofs.laws.stores_hold.Goals as goal

pub returns : goal.returns
returns c = stores-hold
