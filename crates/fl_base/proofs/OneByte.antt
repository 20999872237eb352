-- Lists of one byte.
use Rattle.std.proofs.Common.{◌≡◌, inl, inr, ℕ, zero, suc, Bool, true, false, ◌==◌, List, [], ◌∷◌, length, take, replicate, refl, sym, ◌∙◌, ap}
use Rattle.std.proofs.lemmas.Bool.{and_parts, and_from, cases_Bool, eq-eqb, eqb-true}
use Rattle.std.specs.Cmp.Lexicographic.{bytes_decides, pointwise}
use Rattle.std.specs.Prelude.{nat_eq}
use Rattle.fl_base.specs.Bytes.{all_are}

pub all_same : (v : ℕ) (xs : List ℕ) → all_are v xs ≡ true → xs ≡ replicate (length xs) v
all_same v [] e = refl
all_same v (x ∷ xs) e =
    let both = and_parts (x == v) (all_are v xs) e in
    ap (λ (y : ℕ). y ∷ xs) (eqb-true x v both.0) ∙ ap (λ (l : List ℕ). v ∷ l) (all_same v xs both.1)

pub same_all : (v n : ℕ) → all_are v (replicate n v) ≡ true
same_all v zero = refl
same_all v (suc n) = rw (eq-eqb v v refl) (same_all v n)

-- each byte of a list is this one exactly where it stays the same list if this one is put before it and its last one goes
pub shifted : (v : ℕ) (xs : List ℕ) → all_are v xs ≡ true → xs ≡ take (length xs) (v ∷ xs)
shifted v [] e = refl
shifted v (x ∷ xs) e =
    let both = and_parts (x == v) (all_are v xs) e in
    let is = eqb-true x v both.0 in
    ap (λ (y : ℕ). y ∷ xs) is ∙ ap (λ (l : List ℕ). v ∷ l) (shifted v xs both.1 ∙ ap (λ (y : ℕ). take (length xs) (y ∷ xs)) (sym is))

pub unshifted : (v : ℕ) (xs : List ℕ) → xs ≡ take (length xs) (v ∷ xs) → all_are v xs ≡ true
unshifted v [] e = refl
unshifted v (x ∷ xs) e =
    let split : x ∷ xs ≡ v ∷ take (length xs) (x ∷ xs) = e in
    let is : x ≡ v = cc split in
    let rest : xs ≡ take (length xs) (x ∷ xs) = cc split in
    and_from (x == v) (all_are v xs) (eq-eqb x v is) (unshifted v xs (rest ∙ ap (λ (y : ℕ). take (length xs) (y ∷ xs)) is))

-- .. as a comparison of a list with itself tells it
pub shift-tells : (v first : ℕ) (bytes others : List ℕ) (same : Bool) → bytes ≡ first ∷ others → first ≡ v → same ≡ pointwise nat_eq others (take (length others) bytes) → same ≡ all_are v bytes
shift-tells v first bytes others same is head eq = by-test same eq
  where
    begun : bytes ≡ v ∷ others
    begun = is ∙ ap (λ (x : ℕ). x ∷ others) head

    all : all_are v others ≡ true → all_are v bytes ≡ true
    all h = ap (all_are v) begun ∙ and_from (v == v) (all_are v others) (eq-eqb v v refl) h

    others-are : all_are v bytes ≡ true → all_are v others ≡ true
    others-are h = (and_parts (v == v) (all_are v others) (sym (ap (all_are v) begun) ∙ h)).1

    by-test : (b : Bool) → b ≡ pointwise nat_eq others (take (length others) bytes) → b ≡ all_are v bytes
    by-test true e = sym (all (unshifted v others ((bytes_decides others (take (length others) bytes)).0 (sym e) ∙ ap (λ (l : List ℕ). take (length others) l) begun)))
    by-test false e = elim (cases_Bool (all_are v bytes)) [
      | inl each ↦ absurd (let t = (bytes_decides others (take (length others) bytes)).1 (shifted v others (others-are each) ∙ ap (λ (l : List ℕ). take (length others) l) (sym begun)) in cc (e, t))
      | inr other ↦ sym other
    ]
