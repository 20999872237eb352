-- Why a call failed.
use Rattle.std.specs.Prelude.{◌≡◌, ◌⊎◌, true, false, None}
use Rattle.fl_base.specs.Causes.{Rose}
use Rattle.fl_flash.specs.Flash.{FlashState, CutComes}
use Rattle.fl_flash.specs.declared.flash.FlashFault.{FlashFault}
use Rattle.fl_flash.specs.declared.flash.FlashFault.TheVariants.{PowerLost, Media}

-- the power was off, or a cut was armed and came in it; or the medium failed in it
abbrev pub CausedBy : FlashState → FlashFault → FlashState → Type 0
CausedBy old PowerLost new = (old.is_on ≡ false) ⊎ CutComes old new
CausedBy old Media new = Rose old.media.faults new.media.faults

-- the power is on, and no cut is armed
pub record IsUnarmed (f : FlashState) : Type 0 where
  pub on : f.is_on ≡ true
  pub none : f.armed ≡ None

-- why a read fails
abbrev pub ReadFails : FlashState → FlashFault → FlashState → Type 0
ReadFails old PowerLost new = old.is_on ≡ false
ReadFails old Media new = Rose old.media.faults new.media.faults
