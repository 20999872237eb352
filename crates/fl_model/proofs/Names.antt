-- Names, which are compared by their bytes.
use Rattle.std.proofs.Common.{◌≡◌, ◌≢◌, ℕ, ◌+◌, ◌<◌, Bool, true, false, ◌&&◌, cond, eqb, nat_eq, inl, inr, Some, List, [], ◌∷◌, refl, sym, ◌∙◌, subst, arith}
use Rattle.std.specs.List.{slice_get}
use Rattle.std.specs.Cmp.Lexicographic.{bytes_decides, pointwise}
use Rattle.std.proofs.lemmas.Bool.{cases_lt, false_from_ne_true, false≢true}
use Rattle.fl_model.specs.Record.{bytes_equal}

-- the comparison of two texts is that of slices
pub bytes_equal-is : (a b : List ℕ) → pointwise nat_eq a b ≡ bytes_equal a b
bytes_equal-is [] [] = refl
bytes_equal-is [] (b ∷ bs) = refl
bytes_equal-is (a ∷ as') [] = refl
bytes_equal-is (a ∷ as') (b ∷ bs) =
    let tail = bytes_equal-is as' bs in
    elim (eqb a b) as (λ t. (t && pointwise nat_eq as' bs) ≡ cond t (bytes_equal as' bs) false) [ true ↦ tail | false ↦ refl ]

pub bytes_equal-same : (a b : List ℕ) → bytes_equal a b ≡ true → a ≡ b
bytes_equal-same a b is = (bytes_decides a b).0 (bytes_equal-is a b ∙ is)

pub bytes_equal-other : (a b : List ℕ) → b ≢ a → bytes_equal a b ≡ false
bytes_equal-other a b other = false_from_ne_true (bytes_equal a b) (λ is. other (sym (bytes_equal-same a b is)))

pub bytes_equal-own : (a : List ℕ) → bytes_equal a a ≡ true
bytes_equal-own a = sym (bytes_equal-is a a) ∙ (bytes_decides a a).1 refl

-- the test of two names
pub names-same : (a b own name : List ℕ) (test : Bool) → a ≡ own → b ≡ name → test ≡ pointwise nat_eq a b → test ≡ true → own ≡ name
names-same a b own name test e k is equal = sym e ∙ ((bytes_decides a b).0 (sym is ∙ equal) ∙ k)

pub names-differ : (a b own name : List ℕ) (test : Bool) → a ≡ own → b ≡ name → test ≡ pointwise nat_eq a b → test ≡ false → own ≡ name → ⊥
names-differ a b own name test e k is other same = false≢true (sym other ∙ is ∙ (bytes_decides a b).1 (e ∙ same ∙ sym k))

-- none before a place is the one that is sought, nor the one there
pub none-more : {X : Type 0} (P : X → Type 0) (xs : List X) (at : ℕ) → ((i : ℕ) (x : X) → i < at → slice_get xs i ≡ Some x → P x → ⊥) → ((x : X) → slice_get xs at ≡ Some x → P x → ⊥)
    → (i : ℕ) (x : X) → i < at + 1 → slice_get xs i ≡ Some x → P x → ⊥
none-more P xs at others own i x lt is here = elim (cases_lt i at) [
  | inl before ↦ others i x before is here
  | inr ge ↦ own x (let same : i ≡ at = omega (arith, lt, ge) in subst (λ j. slice_get xs j ≡ Some x) same is) here
]
