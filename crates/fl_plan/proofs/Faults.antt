-- The first fault of a list of tests, part by part.
use Rattle.std.proofs.Common.{◌≡◌, Bool, true, false, Option, Some, None, Result, Ok, Err, List, [], ◌∷◌, ◌++◌, arith, refl, subst, sym, ◌∙◌, ap}
use Rattle.std.specs.Prelude.{IsErrAnd, IsSomeAnd, IfSome, ◌≤◌}
use Rattle.fl_base.specs.declared.types.RingPlace.{RingPlace}
use Rattle.fl_plan.specs.Plan.{blocks_in}
use Rattle.fl_plan.specs.Limits.{IsRingSize}
use Rattle.fl_words.specs.Config.{ConfigFault, first_fault}
use Rattle.fl_model.specs.Table.{first_of}
use Rattle.fl_plan.specs.declared.refusal.ConfigRefusal.{ConfigRefusal}
use Rattle.fl_plan.specs.Refusal.{fault_of, Tells}

pub first_fault-append : (xs ys : List (Bool × ConfigFault)) → first_fault (xs ++ ys) ≡ first_of (first_fault xs) (first_fault ys)
first_fault-append [] ys = refl
first_fault-append ((true, fault) ∷ xs) ys = refl
first_fault-append ((false, fault) ∷ xs) ys = first_fault-append xs ys

pub after-none : (xs ys : List (Bool × ConfigFault)) → first_fault xs ≡ None → first_fault (xs ++ ys) ≡ first_fault ys
after-none xs ys none = first_fault-append xs ys ∙ ap (λ f. first_of f (first_fault ys)) none

at-first : (xs ys : List (Bool × ConfigFault)) (fault : ConfigFault) → first_fault xs ≡ Some fault → first_fault (xs ++ ys) ≡ Some fault
at-first xs ys fault is = first_fault-append xs ys ∙ ap (λ f. first_of f (first_fault ys)) is

pub some-first : (told : Option ConfigFault) (xs ys : List (Bool × ConfigFault)) → IsSomeAnd told (λ fault. first_fault xs ≡ Some fault) →
    IsSomeAnd told (λ fault. first_fault (xs ++ ys) ≡ Some fault)
some-first None xs ys is = is
some-first (Some fault) xs ys is = at-first xs ys fault is

-- a refusal that the first tests give is that of all
pub tells-first : {A : Type 0} (result : Result A ConfigRefusal) (refusal : ConfigRefusal) (xs ys : List (Bool × ConfigFault)) →
    IsErrAnd result (λ e. e ≡ refusal) → IsSomeAnd (fault_of refusal) (λ fault. first_fault xs ≡ Some fault) → Tells result (first_fault (xs ++ ys))
tells-first (Ok value) refusal xs ys is told = absurd is
tells-first (Err other) refusal xs ys is told =
    subst (λ r. IsSomeAnd (fault_of r) (λ fault. first_fault (xs ++ ys) ≡ Some fault)) (sym is) (some-first (fault_of refusal) xs ys told)

-- where they give none it is that of the others
pub tells-then : {A : Type 0} (result : Result A ConfigRefusal) (xs ys : List (Bool × ConfigFault)) → first_fault xs ≡ None →
    Tells result (first_fault ys) → Tells result (first_fault (xs ++ ys))
tells-then result xs ys none told = subst (λ fault. Tells result fault) (sym (after-none xs ys none)) told

pub some-then : (told : Option ConfigFault) (xs ys : List (Bool × ConfigFault)) → first_fault xs ≡ None →
    IsSomeAnd told (λ fault. first_fault ys ≡ Some fault) → IsSomeAnd told (λ fault. first_fault (xs ++ ys) ≡ Some fault)
some-then None xs ys none is = is
some-then (Some fault) xs ys none is = after-none xs ys none ∙ is

pub none-both : (xs ys : List (Bool × ConfigFault)) → first_fault xs ≡ None → first_fault ys ≡ None → first_fault (xs ++ ys) ≡ None
none-both xs ys first then = after-none xs ys first ∙ then

-- tests that find no fault find none in either part
pub none_first : (xs ys : List (Bool × ConfigFault)) → first_fault (xs ++ ys) ≡ None → first_fault xs ≡ None
none_first xs ys e = by_first (first_fault xs) (sym (first_fault-append xs ys) ∙ e)
  where
    by_first : (o : Option ConfigFault) → first_of o (first_fault ys) ≡ None → o ≡ None
    by_first None k = refl
    by_first (Some fault) k = cc

pub none_last : (xs ys : List (Bool × ConfigFault)) → first_fault (xs ++ ys) ≡ None → first_fault ys ≡ None
none_last xs ys e = by_first (first_fault xs) (sym (first_fault-append xs ys) ∙ e)
  where
    by_first : (o : Option ConfigFault) → first_of o (first_fault ys) ≡ None → first_fault ys ≡ None
    by_first None k = k
    by_first (Some fault) k = cc

-- a ring of few blocks, or none
pub blocks_in-le : (place : Option RingPlace) → IfSome place IsRingSize → blocks_in place ≤ 16384
blocks_in-le None few = omega arith
blocks_in-le (Some place) few = few.1
