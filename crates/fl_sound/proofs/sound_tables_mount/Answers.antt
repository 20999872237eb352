use Rattle.fl_sound.proofs.Mounts.{sound-mounts}
use Rattle.fl_sound.proofs.sound_tables_mount.Goals as goal

pub returns : goal.returns
returns c = sound-mounts
