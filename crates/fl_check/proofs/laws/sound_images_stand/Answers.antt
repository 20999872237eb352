use Rattle.fl_check.proofs.SoundImages.{sound-images}
use Rattle.fl_check.proofs.laws.sound_images_stand.Goals as goal

pub returns : goal.returns
returns c = sound-images
