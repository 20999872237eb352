use Rattle.fl_shipped.proofs.Histories.{copies-are-parts}
use Rattle.fl_shipped.proofs.copies_of_images_are_parts.Goals as goal

pub returns : goal.returns
returns c = copies-are-parts
