-- Why a check ends before its end.
use Rattle.std.specs.Prelude.{ℕ, Option, Some, None, Result, Ok, Err}
use Rattle.fl_flash.specs.declared.flash.FlashFault.{FlashFault}
use Rattle.fl_rules.specs.declared.rule.Breach.{Breach}
use Rattle.fl_rules.specs.declared.rule.Rule.{Rule}
use Rattle.fl_rules.specs.declared.rule.Stop.{Stop}
use Rattle.fl_rules.specs.declared.rule.Stop.TheVariants.{Flash, Broken}

-- a fault of the flash has this cause
abbrev pub IfFlash : (FlashFault → Type 0) → Stop → Type 0
IfFlash P (Flash fault) = P fault
IfFlash P (Broken breach) = Unit {0}

-- a rule that doesn't hold breaks so
abbrev pub IfBroken : (Breach → Type 0) → Stop → Type 0
IfBroken P (Flash fault) = Unit {0}
IfBroken P (Broken breach) = P breach

abbrev pub breach : Rule → ℕ → Breach
breach rule page = record { rule = rule; page = page }

-- the page at which a check of one rule ended, unless the flash failed
abbrev pub first_page : Result (Unit {0}) Stop → Result (Option ℕ) FlashFault
first_page (Ok done) = Ok None
first_page (Err (Broken breach)) = Ok (Some breach.page)
first_page (Err (Flash fault)) = Err fault
