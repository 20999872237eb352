use Rattle.fl_store.proofs.NewImages.{new-image}
use Rattle.fl_store.proofs.laws.new_images_are_empty.Goals as goal

pub returns : goal.returns
returns c = new-image
