use Rattle.fl_sound.proofs.Checks.{all-sound}
use Rattle.fl_sound.proofs.tables_are_sound.Goals as goal

pub returns : goal.returns
returns c = all-sound
