-- What a check answers with the power off.
use Rattle.std.specs.Prelude.{◌≡◌, false, Result, Err}
use Rattle.fl_flash.specs.Flash.{FlashState}

-- with the power off it fails so, and nothing changes
abbrev pub OffFails : {A E : Type 0} → E → FlashState → Result A E → FlashState → Type 0
OffFails fault old result new = old.is_on ≡ false → (result ≡ Err fault) × (new ≡ old)
