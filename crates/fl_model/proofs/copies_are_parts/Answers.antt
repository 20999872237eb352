use Rattle.fl_model.proofs.CopiesAreParts.{parts}
use Rattle.fl_model.proofs.copies_are_parts.Goals as goal

pub returns : goal.returns
returns c = parts
