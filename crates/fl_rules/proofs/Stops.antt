-- What holds of the results of a check.
use Rattle.std.proofs.Common.{◌≡◌, Result, Ok, Err, IfErr, sym, subst}
use Rattle.fl_rules.specs.Stop.{IfBroken}
use Rattle.fl_rules.specs.declared.rule.Breach.{Breach}
use Rattle.fl_rules.specs.declared.rule.Stop.{Stop}
use Rattle.fl_rules.specs.declared.rule.Stop.TheVariants.{Flash, Broken}

pub if_broken : {A : Type 0} (P Q : Breach → Type 0) (result : Result A Stop) → ((b : Breach) → P b → Q b) → IfErr result (IfBroken P) → IfErr result (IfBroken Q)
if_broken P Q (Ok a) f p = tt
if_broken P Q (Err (Flash fault)) f p = tt
if_broken P Q (Err (Broken b)) f p = f b p

-- the stop is at this breach
pub if_at : {A : Type 0} (Q : Breach → Type 0) (X : Type 0) (b : Breach) (result : Result A Stop) → (X → Q b) → IfErr result (λ e. (e ≡ Broken b) × X) → IfErr result (IfBroken Q)
if_at Q X b (Ok a) f p = tt
if_at Q X b (Err e) f p = subst (IfBroken Q) (sym p.0) (f p.1)
