-- Why the pages of a ring aren't read.
use Rattle.fl_flash.specs.Flash.{FlashState}
use Rattle.fl_frame.specs.Causes.{ReadFails}
use Rattle.fl_map.specs.declared.fault.MapFault.{MapFault}
use Rattle.fl_map.specs.declared.fault.MapFault.TheVariants.{Flash, NoMemory}

-- a fault of the flash has its cause
abbrev pub FailsBy : FlashState → MapFault → FlashState → Type 0
FailsBy old (Flash fault) new = ReadFails old fault new
FailsBy old NoMemory new = Unit {0}
