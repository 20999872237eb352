-- Laws on calls of a flash, one after another.
use Rattle.std.specs.Prelude.{◌≡◌, true}
use Rattle.fl_flash.specs.Flash.{FlashState, Goes}
use Rattle.fl_flash.specs.declared.flash.FlashFault.{FlashFault}
use Rattle.fl_flash.specs.declared.flash.FlashFault.TheVariants.{PowerLost}
use Rattle.fl_frame.specs.Causes.{CausedBy, IsUnarmed}

-- Calls that leave the power and the cuts so do it one after another too, and what caused a fault of a later one caused it in all.
-- So a flash that is on, and on which no cut is armed, stays so, and loses no power, whatever its bytes are.
pub record UnarmedLosesNoPower : Type 0 where
  pub in_turn : (old mid new : FlashState) → Goes old mid → Goes mid new → Goes old new
  pub caused : (old mid new : FlashState) → Goes old mid → (old.is_on ≡ true → mid.is_on ≡ true) → (fault : FlashFault) → CausedBy mid fault new → CausedBy old fault new
  pub stays : (old new : FlashState) → IsUnarmed old → Goes old new → IsUnarmed new
  pub never : (old new : FlashState) → IsUnarmed old → CausedBy old PowerLost new → ⊥
