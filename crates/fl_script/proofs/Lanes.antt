-- Vectors of digits, lane by lane.
use Rattle.std.proofs.Common.{◌≡◌, ℕ, zero, suc, ◌+◌, ◌*◌, ◌%◌, eqb, cond, not, ◌++◌, Bool, true, false, ◌&&◌, List, [], ◌∷◌, map, length, Fits, w8, refl, sym, ap, ap₂, ◌∙◌, arith}
use Rattle.std.proofs.lemmas.Bool.{agree_below, agree_below_at, eqb-true, ne_eqb}
use Rattle.std.specs.Prelude.{slice_index_or}
use Rattle.std.specs.List.{list_all}
use Rattle.std.specs.Simd.Lanes.{Each1, sel_l, mask_l, top}
use Rattle.fl_script.specs.Pairs.{pairs_of}

-- a choice by a vector's top bits, of vectors that were computed lane by lane from v
pub chosen : (m f g : ℕ → ℕ) (v : List ℕ) {ms xs ys : List ℕ} → ms ≡ map m v → xs ≡ map f v → ys ≡ map g v → sel_l (map (top 7) ms) xs ys ≡ map (λ x. cond (top 7 (m x)) (f x) (g x)) v
chosen m f g v p q r = (λ i. sel_l (map (top 7) (p i)) (q i) (r i)) ∙ each v
  where
    each : (v : List ℕ) → sel_l (map (top 7) (map m v)) (map f v) (map g v) ≡ map (λ x. cond (top 7 (m x)) (f x) (g x)) v
    each [] = refl
    each (x ∷ v) = ap (λ rest. cond (top 7 (m x)) (f x) (g x) ∷ rest) (each v)

-- two functions that agree on each byte
pub alike : (f g : ℕ → ℕ) → agree_below (λ x. eqb (f x) (g x)) (λ _. true) 256 ≡ true → (v : List ℕ) → Each1 (Fits w8) v → map f v ≡ map g v
alike f g all [] fits = refl
alike f g all (x ∷ v) fits = ap₂ (λ y rest. y ∷ rest) (eqb-true (f x) (g x) (agree_below_at (λ x. eqb (f x) (g x)) (λ _. true) 256 x all fits.0.fits)) (alike f g all v fits.1)

-- the bytes of so many pairs from a lane on
abbrev pairs_from : List ℕ → ℕ → ℕ → List ℕ
pairs_from w i zero = []
pairs_from w i (suc n) = (slice_index_or w i 0 * 16 % 256 + slice_index_or w (suc i) 0) % 256 ∷ pairs_from w (suc (suc i)) n

behind_one : (x : ℕ) (w : List ℕ) (i n : ℕ) → pairs_from (x ∷ w) (suc i) n ≡ pairs_from w i n
behind_one x w i zero = refl
behind_one x w i (suc n) = ap (λ rest. (slice_index_or w i 0 * 16 % 256 + slice_index_or w (suc i) 0) % 256 ∷ rest) (behind_one x w (suc (suc i)) n)

-- the even lanes of a vector beside the odd ones are its pairs
pub picked : (n : ℕ) (v w : List ℕ) → length v ≡ 2 * n → pairs_from (v ++ w) 0 n ≡ pairs_of v
picked zero [] w long = refl
picked zero (x ∷ v) w long = absurd (omega (arith, long))
picked (suc n) [] w long = absurd (omega (arith, long))
picked (suc n) (x ∷ []) w long = absurd (omega (arith, long))
picked (suc n) (x ∷ y ∷ v) w long = ap (λ rest. (x * 16 % 256 + y) % 256 ∷ rest) (behind_one x (y ∷ v ++ w) 1 n ∙ behind_one y (v ++ w) 0 n ∙ picked n v w (omega (arith, long)))

-- no bit of a mask is set where no lane passes
pub none_set : (p : ℕ → Bool) (v : List ℕ) → eqb (mask_l (map p v)) 0 ≡ list_all (λ x. not (p x)) v
none_set p [] = refl
none_set p (x ∷ v) = one (p x) (mask_l (map p v)) _ (none_set p v)
  where
    one : (b : Bool) (m : ℕ) (others : Bool) → eqb m 0 ≡ others → eqb (cond b 1 0 + 2 * m) 0 ≡ not b && others
    one true m others e = ne_eqb (1 + 2 * m) 0 (λ k. absurd (omega (arith, k)))
    one false zero others e = e
    one false (suc m) others e = ne_eqb (0 + 2 * suc m) 0 (λ k. absurd (omega (arith, k))) ∙ (sym (ne_eqb (suc m) 0 (λ k. absurd (omega (arith, k)))) ∙ e)
