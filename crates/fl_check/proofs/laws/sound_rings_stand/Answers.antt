use Rattle.fl_check.proofs.SoundRings.{rings-stand}
use Rattle.fl_check.proofs.laws.sound_rings_stand.Goals as goal

pub returns : goal.returns
returns c = rings-stand
