use Rattle.fl_script.proofs.Lanes.{picked}
use Rattle.fl_script.proofs.hexadecimal.joined.Goals as goal

pub returns : goal.returns
returns c = picked 16 c.args.values c.args.values c.fits-values.0
