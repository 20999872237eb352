-- What holds of the results of a table's check.
use Rattle.std.proofs.Common.{◌≡◌, Option, None, IfNone, Result, Ok, Err, IfOk, IfErr, subst}
use Rattle.fl_flash.specs.declared.flash.FlashFault.{FlashFault}
use Rattle.fl_rules.specs.Stop.{IfFlash, IfBroken}
use Rattle.fl_rules.specs.declared.rule.Breach.{Breach}
use Rattle.fl_rules.specs.declared.rule.Stop.{Stop}
use Rattle.fl_rules.specs.declared.rule.Stop.TheVariants.{Flash, Broken}
use Rattle.fl_check.specs.Looks.{IfFailed, IfFound}
use Rattle.fl_check.specs.declared.halt.Fault.{Fault}
use Rattle.fl_check.specs.declared.halt.Halt.{Halt}
use Rattle.fl_check.specs.declared.halt.Halt.TheVariants.{Failed, Found}

pub failed_so : (P Q : FlashFault → Type 0) (halt : Halt) → ((e : FlashFault) → P e → Q e) → IfFailed P halt → IfFailed Q halt
failed_so P Q (Failed e) f p = f e p
failed_so P Q (Found fault) f p = tt

pub found_so : (P Q : Fault → Type 0) (halt : Halt) → ((fault : Fault) → P fault → Q fault) → IfFound P halt → IfFound Q halt
found_so P Q (Failed e) f p = tt
found_so P Q (Found fault) f p = f fault p

pub if_failed : {A : Type 0} (P Q : FlashFault → Type 0) (result : Result A Halt) → ((e : FlashFault) → P e → Q e) → IfErr result (IfFailed P) → IfErr result (IfFailed Q)
if_failed P Q (Ok a) f p = tt
if_failed P Q (Err halt) f p = failed_so P Q halt f p

pub if_found : {A : Type 0} (P Q : Fault → Type 0) (result : Result A Halt) → ((fault : Fault) → P fault → Q fault) → IfErr result (IfFound P) → IfErr result (IfFound Q)
if_found P Q (Ok a) f p = tt
if_found P Q (Err halt) f p = found_so P Q halt f p

-- what is known of a ring's check
module _ {A : Type 0} (checked : Result A Stop) where
  pub ok_of : (P : A → Type 0) (a : A) → checked ≡ Ok a → IfOk checked P → P a
  ok_of P a e p = subst (λ (x : Result A Stop). IfOk x P) e p

  pub failed_of : (P : FlashFault → Type 0) (fault : FlashFault) → checked ≡ Err (Flash fault) → IfErr checked (IfFlash P) → P fault
  failed_of P fault e p = subst (λ (x : Result A Stop). IfErr x (IfFlash P)) e p

  pub found_of : (P : Breach → Type 0) (b : Breach) → checked ≡ Err (Broken b) → IfErr checked (IfBroken P) → P b
  found_of P b e p = subst (λ (x : Result A Stop). IfErr x (IfBroken P)) e p

-- what is known of an answer
pub none_of : {A : Type 0} (P : Type 0) (o : Option A) → o ≡ None → IfNone o P → P
none_of {A = A} P o e p = subst (λ (x : Option A). IfNone x P) e p
