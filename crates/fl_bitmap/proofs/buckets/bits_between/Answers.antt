use Rattle.fl_bitmap.proofs.Masks.{shifted}
use Rattle.fl_bitmap.proofs.buckets.bits_between.Goals as goal

pub returns : goal.returns
returns c = shifted c.args.low c.args.high c.requires.ordered c.requires.few
