-- A call whose flash tells its bytes.
use Rattle.std.specs.Prelude.{◌≡◌, Bool, true, IsTrue}
use Rattle.fl_base.specs.Causes.{Rose}
use Rattle.fl_flash.specs.Flash.{FlashState}
use Rattle.fl_model.specs.Work.{Device}
use Rattle.fl_frame.specs.Device.{SameDevice}

-- The medium tells its bytes, and the call finds the power on. `rose` is true where the medium's faults rose in it.
pub record IsWatched (old new : FlashState) (rose : Bool) (device : Device) : Type 0 where
  pub told : IsTrue old.media.tells
  pub on : old.is_on ≡ true
  pub risen : Rose old.media.faults new.media.faults → IsTrue rose
  pub counts : SameDevice old device
