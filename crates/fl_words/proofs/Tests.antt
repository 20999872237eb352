-- The tests of a configuration line: where no fault applies, none passes.
use Rattle.std.proofs.Common.{◌≡◌, ℕ, zero, suc, Bool, true, false, None, Some, List, [], ◌∷◌, refl, subst}
use Rattle.std.specs.List.{slice_get}
use Rattle.std.proofs.lemmas.Option.{none-some, same_Some}
use Rattle.fl_words.specs.Config.{ConfigFault, first_fault}

-- the first of the tests, and the others
pub first-passes : (test : Bool) (fault : ConfigFault) (tests : List (Bool × ConfigFault)) → first_fault ((test, fault) ∷ tests) ≡ None → (test ≡ false) × (first_fault tests ≡ None)
first-passes true fault tests none = cc
first-passes false fault tests none = (refl, none)

pub test-passes : (tests : List (Bool × ConfigFault)) (i : ℕ) (test : Bool × ConfigFault) → first_fault tests ≡ None → slice_get tests i ≡ Some test → test.0 ≡ false
test-passes [] i test h e = absurd (none-some test e)
test-passes (t ∷ tests) zero test h e = subst (λ (x : Bool × ConfigFault). x.0 ≡ false) (same_Some t test e) (first-passes t.0 t.1 tests h).0
test-passes (t ∷ tests) (suc i) test h e = test-passes tests i test (first-passes t.0 t.1 tests h).1 e
