-- A flash that is opened loses no power.
use Rattle.std.proofs.Common.{◌≡◌, Option, None, Some, refl}
use Rattle.std.proofs.lemmas.Option.{none-some}
use Rattle.fl_flash.specs.Flash.{FlashState}
use Rattle.fl_flash.specs.Media.{MediaState}
use Rattle.fl_flash.specs.declared.armed.Armed.{Armed}
use Rattle.fl_frame.specs.Causes.{IsUnarmed}
use Rattle.fl_frame.specs.Device.{ArmsAs}
use Rattle.fl_words.specs.Config.{Lines}
use Rattle.fl_store.specs.Store.{IsOpened}

arms-none : (armed : Option Armed) → ArmsAs None armed → armed ≡ None
arms-none None h = refl
arms-none (Some armed) (kind, is, counted, tears) = absurd (none-some _ is)

pub opened-unarmed : (lines : Lines) (medium : MediaState) (f : FlashState) → IsOpened lines medium f → IsUnarmed f
opened-unarmed lines medium f opened = record { on = opened.on; none = arms-none f.armed opened.calm.armed }
