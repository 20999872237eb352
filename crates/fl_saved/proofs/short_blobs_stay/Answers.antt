use Rattle.fl_saved.proofs.ShortBlobs.{short-blobs-stay}
use Rattle.fl_saved.proofs.short_blobs_stay.Goals as goal

pub returns : goal.returns
returns c = short-blobs-stay
