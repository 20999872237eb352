use Rattle.fl_model.proofs.FullIndex.{indexed-below, listed-behind, listed-renumbered}
use Rattle.fl_model.proofs.listing_ends.Goals as goal

pub returns : goal.returns
returns c = record { behind = listed-behind; unsealed = indexed-below; renumbered = listed-renumbered }
