-- The segment of a key among knots that rise, and its estimate.
use Rattle.std.proofs.Common.{ℕ, zero, suc, ◌≡◌, ◌<◌, ◌≤◌, ◌+◌, ◌-◌, ◌*◌, ◌/◌, List, [], ◌∷◌, true, false, leb, ltb, length, drop, refl, ap, ◌∙◌, arith, Option, Some, None, get_or, ⊎_elim}
use Rattle.std.specs.Prelude.{MatchOption, SomeIff}
use Rattle.std.specs.List.Sorted.{IsPartitionPoint, IsNonDecreasingBy}
use Rattle.std.proofs.lemmas.Bool.{cases_lt, leb-true, leb-false, le-leb, lt-ltb, le-ltb}
use Rattle.std.proofs.Math.Seq.{drop-cons}
use Rattle.std.proofs.Math.Numerals.{add-one}
use Rattle.std.proofs.lemmas.List.{drop_all}
use Rattle.fl_model.specs.Spline.{is_covered, estimate}
use Rattle.fl_spline.specs.Points.{Rises}
use Rattle.fl_spline.specs.Segment.{IsSegment, point_at}

pub keys-rise : (ks : List (ℕ × ℕ)) → Rises ks → IsNonDecreasingBy (λ k. k.0) ks
keys-rise ks up i j d le within = ⊎_elim
    (λ lt. let both = up i j d lt within in omega (arith, both))
    (λ ge. let same : i ≡ j = omega arith in rw same (omega arith))
    (cases_lt i j)

uncovered : (ks : List (ℕ × ℕ)) (key : ℕ) → ((k : ℕ) (d : ℕ × ℕ) → k < length ks → leb (get_or ks k d).0 key ≡ false) → is_covered ks key ≡ false
uncovered [] key far = refl
uncovered (k ∷ ks) key far = far 0 k (omega arith)

-- the number of knots whose keys are at most the key tells the segment
pub segment-is : (ks : List (ℕ × ℕ)) (key n : ℕ) (r : Option ℕ) → n ≤ length ks
    → IsPartitionPoint (λ k. leb k.0 key ≡ true) (λ k. leb k.0 key ≡ false) ks n → SomeIff r (1 ≤ n) (n - 1)
    → MatchOption r (is_covered ks key ≡ false) (λ i. IsSegment ks key i)
segment-is ks key n None le point none =
    uncovered ks key (λ k d within. point.1 k d (let z : n ≡ 0 = omega (arith, none) in omega arith) within)
segment-is ks key n (Some i) le point some = record {
  within = omega (arith, some.0, some.1);
  at_most = leb-true _ _ (point.0 i (0, 0) (omega arith) (omega (arith, some.0, some.1)));
  last = λ j after within. leb-false _ _ (point.1 j (0, 0) (omega (arith, some.0, some.1)) within);
}

-- the estimate of a key looks at no knot before one that is at most the key
estimate-after : (a b : ℕ × ℕ) (ks : List (ℕ × ℕ)) (key : ℕ) → b.0 ≤ key → estimate (a ∷ b ∷ ks) key ≡ estimate (b ∷ ks) key
estimate-after a b ks key le = let e : ltb key b.0 ≡ false = le-ltb _ _ le in rw e refl

rises-tail : (k : ℕ × ℕ) (ks : List (ℕ × ℕ)) → Rises (k ∷ ks) → Rises ks
rises-tail k ks up i j d lt within = up (suc i) (suc j) d (omega arith) (omega arith)

pub estimate-drop : (ks : List (ℕ × ℕ)) (key i : ℕ) → Rises ks → i < length ks → (point_at ks i).0 ≤ key → estimate ks key ≡ estimate (drop i ks) key
estimate-drop ks key zero up within le = refl
estimate-drop [] key (suc i) up within le = absurd (omega (arith, within))
estimate-drop (a ∷ []) key (suc i) up within le = absurd (omega (arith, within))
estimate-drop (a ∷ b ∷ ks) key (suc i) up within le =
    let rising = keys-rise (b ∷ ks) (rises-tail a (b ∷ ks) up) 0 i (0, 0) (omega arith) (omega arith) in
    estimate-after a b ks key (omega (arith, rising, le)) ∙ estimate-drop (b ∷ ks) key i (rises-tail a (b ∷ ks) up) (omega arith) le

pub estimate-last : (ks : List (ℕ × ℕ)) (key i : ℕ) → Rises ks → IsSegment ks key i → i + 1 ≡ length ks → estimate ks key ≡ (point_at ks i).1
estimate-last ks key i up s e =
    let none : drop (suc i) ks ≡ [] = drop_all (suc i) ks (omega arith) in
    let here : drop i ks ≡ point_at ks i ∷ [] = drop-cons ks i (0, 0) s.within ∙ ap (λ xs. point_at ks i ∷ xs) none in
    estimate-drop ks key i up s.within s.at_most ∙ ap (λ xs. estimate xs key) here

pub estimate-line : (ks : List (ℕ × ℕ)) (key i : ℕ) → Rises ks → IsSegment ks key i → i + 1 < length ks
    → estimate ks key ≡ (point_at ks i).1 + (key - (point_at ks i).0) * ((point_at ks (i + 1)).1 - (point_at ks i).1) / ((point_at ks (i + 1)).0 - (point_at ks i).0)
estimate-line ks key i up s lt =
    let a = point_at ks i in
    let b = point_at ks (suc i) in
    let here : drop i ks ≡ a ∷ b ∷ drop (suc (suc i)) ks
    = drop-cons ks i (0, 0) s.within ∙ ap (λ xs. a ∷ xs) (drop-cons ks (suc i) (0, 0) (omega arith)) in
    let before : ltb key b.0 ≡ true = lt-ltb _ _ (s.last (suc i) (omega arith) (omega arith)) in
    let line : estimate (a ∷ b ∷ drop (suc (suc i)) ks) key ≡ a.1 + (key - a.0) * (b.1 - a.1) / (b.0 - a.0) = rw before refl in
    rw add-one (estimate-drop ks key i up s.within s.at_most ∙ ap (λ xs. estimate xs key) here ∙ line)

pub segment-covered : (ks : List (ℕ × ℕ)) (key i : ℕ) → Rises ks → IsSegment ks key i → is_covered ks key ≡ true
segment-covered [] key i up s = absurd (omega (arith, s.within))
segment-covered (k ∷ ks) key i up s = le-leb _ _ (let first = keys-rise (k ∷ ks) up 0 i (0, 0) (omega arith) s.within in omega (arith, first, s.at_most))
