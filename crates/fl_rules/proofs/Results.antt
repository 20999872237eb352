-- What holds of the results of a ring's check.
use Rattle.std.proofs.Common.{◌≡◌, Result, Ok, Err, refl}
use Rattle.fl_flash.specs.declared.flash.FlashFault.{FlashFault}
use Rattle.fl_rules.specs.Stop.{IfFlash, IfBroken}
use Rattle.fl_rules.specs.declared.rule.Breach.{Breach}
use Rattle.fl_rules.specs.declared.rule.Stop.{Stop}
use Rattle.fl_rules.specs.declared.rule.Stop.TheVariants.{Flash, Broken}

pub broken_so : (P Q : Breach → Type 0) (stop : Stop) → ((b : Breach) → P b → Q b) → IfBroken P stop → IfBroken Q stop
broken_so P Q (Flash e) f p = tt
broken_so P Q (Broken b) f p = f b p

pub flash_so : (P Q : FlashFault → Type 0) (stop : Stop) → ((e : FlashFault) → P e → Q e) → IfFlash P stop → IfFlash Q stop
flash_so P Q (Flash e) f p = f e p
flash_so P Q (Broken b) f p = tt

-- a call that ended well didn't fail
pub no_fault : {A E : Type 0} {a : A} {e : E} → ◌≡◌ {A = Result A E} (Ok a) (Err e) → ⊥
no_fault h = cc

-- .. and one that failed did so whatever it answers else
pub same_fault : {A B E : Type 0} {d e : E} → ◌≡◌ {A = Result A E} (Err d) (Err e) → ◌≡◌ {A = Result B E} (Err d) (Err e)
same_fault {d = d} {e = e} h = let same : d ≡ e = cc in rw same refl

pub same_flash : {A B : Type 0} {d e : FlashFault} → ◌≡◌ {A = Result A FlashFault} (Err d) (Err e) → ◌≡◌ {A = Result B Stop} (Err (Flash d)) (Err (Flash e))
same_flash {d = d} {e = e} h = let same : d ≡ e = cc in rw same refl
