-- Why a read of a page failed.
use Rattle.std.specs.Prelude.{◌≡◌, ◌+◌, ◌-◌, ◌^◌, ◌<◌, ◌≤◌, false}
use Rattle.fl_base.specs.Causes.{Rose}
use Rattle.fl_flash.specs.Flash.{FlashState}
use Rattle.fl_flash.specs.declared.flash.FlashFault.TheVariants.{PowerLost, Media}
use Rattle.fl_page.specs.declared.fault.ReadFault.{ReadFault}
use Rattle.fl_page.specs.declared.fault.ReadFault.TheVariants.{Flash, BadPage}

-- a fault of the flash has its cause: the power was off, which no read can lose, or the medium failed in a read of the
-- call, which is counted where the count isn't at its end
abbrev pub IsCaused : FlashState → ReadFault → FlashState → Type 0
IsCaused old (Flash PowerLost) new = old.is_on ≡ false
IsCaused old (Flash Media) new = Rose old.media.faults new.media.faults × (new.work.reads < 2 ^ 64 - 1 → old.work.reads + 1 ≤ new.work.reads)
IsCaused old (BadPage bad) new = Unit {0}
