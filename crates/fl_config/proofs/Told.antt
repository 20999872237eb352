-- A refusal that was passed on.
use Rattle.std.proofs.Common.{◌≡◌, Bool, true, false, Option, Some, Result, Ok, Err, refl, subst, sym}
use Rattle.std.specs.Prelude.{not, IsErrAnd, IsSomeAnd}
use Rattle.fl_words.specs.Config.{ConfigFault}
use Rattle.fl_plan.specs.declared.refusal.ConfigRefusal.{ConfigRefusal}
use Rattle.fl_plan.specs.Refusal.{fault_of, Tells}

pub tells-err : {A : Type 0} (result : Result A ConfigRefusal) (refusal : ConfigRefusal) (fault : Option ConfigFault) → IsErrAnd result (λ e. e ≡ refusal) →
    IsSomeAnd (fault_of refusal) (λ told. fault ≡ Some told) → Tells result fault
tells-err (Ok value) refusal fault is told = absurd is
tells-err (Err e) refusal fault is told = subst (λ r. IsSomeAnd (fault_of r) (λ told. fault ≡ Some told)) (sym is) told

-- a fault that a test tells, and one that it doesn't
pub meets : (fault : Bool) {fits : Bool} → fits ≡ not fault → fits ≡ false → fault ≡ true
meets true same fails = refl
meets false same fails = cc

pub misses : (fault : Bool) {fits : Bool} → fits ≡ not fault → fits ≡ true → fault ≡ false
misses true same passes = cc
misses false same passes = refl
