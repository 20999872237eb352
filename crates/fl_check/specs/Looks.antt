-- What a check leaves, and why it finds nothing.
use Rattle.std.specs.Prelude.{◌≡◌, ◌⊎◌, false, Result, Err}
use Rattle.fl_flash.specs.Flash.{FlashState}
use Rattle.fl_flash.specs.declared.flash.FlashFault.{FlashFault}
use Rattle.fl_flash.specs.declared.flash.FlashFault.TheVariants.{PowerLost}
use Rattle.fl_frame.specs.Causes.{ReadFails}
use Rattle.fl_check.specs.declared.finding.CheckFault.{CheckFault}
use Rattle.fl_check.specs.declared.finding.CheckFault.TheVariants.{Flash, NoMemory}
use Rattle.fl_check.specs.declared.halt.Halt.{Halt}
use Rattle.fl_check.specs.declared.halt.Fault.{Fault}
use Rattle.fl_check.specs.declared.halt.Halt.TheVariants.{Failed, Found}

-- a fault of the flash has its cause; where memory is wanting the flash wasn't looked at
abbrev pub CheckFails : FlashState → CheckFault → FlashState → Type 0
CheckFails old (Flash fault) new = ReadFails old fault new
CheckFails old NoMemory new = new ≡ old

-- .. unless memory is wanted before
abbrev pub OffChecksNothing : {A : Type 0} → FlashState → Result A CheckFault → FlashState → Type 0
OffChecksNothing old result new = old.is_on ≡ false → ((result ≡ Err (Flash PowerLost)) ⊎ (result ≡ Err NoMemory)) × (new ≡ old)

-- a fault of the flash has this cause
abbrev pub IfFailed : (FlashFault → Type 0) → Halt → Type 0
IfFailed P (Failed fault) = P fault
IfFailed P (Found fault) = Unit {0}

-- a rule that doesn't hold breaks so
abbrev pub IfFound : (Fault → Type 0) → Halt → Type 0
IfFound P (Failed fault) = Unit {0}
IfFound P (Found fault) = P fault
