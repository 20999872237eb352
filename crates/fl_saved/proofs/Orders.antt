-- Two lists of the same numbers, each in order, are one.
use Rattle.std.proofs.Common.{◌≡◌, inl, inr, ℕ, suc, ◌<◌, ◌≤◌, Bool, cond, List, [], ◌∷◌, length, get_or, refl, sym, ◌∙◌, ap, arith}
use Rattle.std.specs.Prelude.{nat_le}
use Rattle.std.specs.List.{AllByRecursion, sum_by}
use Rattle.std.specs.List.Sorted.{IsPermutation, IsSorted, IsNonDecreasing}
use Rattle.std.specs.Ordering.{nat_cmp}
use Rattle.std.proofs.lemmas.Bool.{cases_lt, le-leb, lt-leb}
use Rattle.std.proofs.lemmas.List.Sorted.{IsNonDecreasingBy-from_sort, sum_by-IsPermutation}
use Rattle.std.proofs.lemmas.List.Sums.{sum_by-cons}

-- each number is at most those behind it
abbrev pub Rises : List ℕ → Type 0
Rises [] = Unit {0}
Rises (x ∷ xs) = AllByRecursion (λ y. x ≤ y) xs × Rises xs

-- ---- what a sort says

each-from : (x : ℕ) (xs : List ℕ) → ((i : ℕ) → i < length xs → x ≤ get_or xs i 0) → AllByRecursion (λ y. x ≤ y) xs
each-from x [] h = tt
each-from x (y ∷ ys) h = (h 0 (omega arith), each-from x ys (λ i lt. h (suc i) (omega (arith, lt))))

rises-from : (xs : List ℕ) → IsNonDecreasing xs → Rises xs
rises-from [] h = tt
rises-from (x ∷ xs) h = (
  each-from x xs (λ i lt. h 0 (suc i) 0 (omega arith) (omega (arith, lt))),
  rises-from xs (λ i j d le lt. h (suc i) (suc j) d (omega (arith, le)) (omega (arith, lt))),
)

pub rises-sorted : (xs : List ℕ) → IsSorted nat_cmp xs → Rises xs
rises-sorted xs sorted = rises-from xs (IsNonDecreasingBy-from_sort (λ (x : ℕ). x) xs sorted)

-- ---- counting

-- one for a number that is at most this one
abbrev up_to : ℕ → ℕ → ℕ
up_to most x = cond (nat_le x most) 1 0

module _ (most : ℕ) where
  up-one : (x : ℕ) → x ≤ most → up_to most x ≡ 1
  up-one x le = ap (λ (b : Bool). cond b 1 0) (le-leb x most le)

  up-none : (x : ℕ) → most < x → up_to most x ≡ 0
  up-none x lt = ap (λ (b : Bool). cond b 1 0) (lt-leb x most lt)

  none-above : (least : ℕ) → most < least → (xs : List ℕ) → AllByRecursion (λ y. least ≤ y) xs → sum_by (up_to most) xs ≡ 0
  none-above least lt [] h = refl
  none-above least lt (x ∷ xs) h =
      let here = up-none x (let le = h.0 in omega (arith, lt, le)) in
      let rest = none-above least lt xs h.1 in
      sum_by-cons (up_to most) x xs ∙ omega (arith, here, rest)

-- each function of numbers has the same sum over both
abbrev SameSums : List ℕ → List ℕ → Type 0
SameSums xs ys = (f : ℕ → ℕ) → sum_by f xs ≡ sum_by f ys

-- a list that has a number doesn't begin above it
not-above : (x y : ℕ) (xs ys : List ℕ) → SameSums (x ∷ xs) (y ∷ ys) → AllByRecursion (λ z. y ≤ z) ys → y ≤ x
not-above x y xs ys same above = elim (cases_lt x y) [
  | inl lt ↦
      let one = up-one x x (omega arith) in
      let none = up-none x y lt in
      let rest = none-above x y lt ys above in
      let no : ⊥ = omega (arith, sum_by-cons (up_to x) x xs, sum_by-cons (up_to x) y ys, one, none, rest, same (up_to x)) in
      absurd no
  | inr le ↦ le
]

pub rises-one : (xs ys : List ℕ) → SameSums xs ys → Rises xs → Rises ys → xs ≡ ys
rises-one [] [] same a b = refl
rises-one [] (y ∷ ys) same a b = let no : ⊥ = omega (arith, same (λ n. 1), sum_by-cons (λ (n : ℕ). 1) y ys) in absurd no
rises-one (x ∷ xs) [] same a b = let no : ⊥ = omega (arith, same (λ n. 1), sum_by-cons (λ (n : ℕ). 1) x xs) in absurd no
rises-one (x ∷ xs) (y ∷ ys) same a b =
    let low = not-above x y xs ys same b.0 in
    let high = not-above y x ys xs (λ f. sym (same f)) a.0 in
    let first : x ≡ y = omega (arith, low, high) in
    let rest = rises-one xs ys (λ f. let at : f x ≡ f y = ap f first in omega (arith, same f, sum_by-cons f x xs, sum_by-cons f y ys, at)) a.1 b.1 in
    ap (λ (n : ℕ). n ∷ xs) first ∙ ap (λ (l : List ℕ). y ∷ l) rest

-- a list of the same numbers in order is the one that rises
pub sorted-is : (numbers ordered rising : List ℕ) → IsPermutation numbers ordered → IsSorted nat_cmp ordered → IsPermutation numbers rising → Rises rising → ordered ≡ rising
sorted-is numbers ordered rising same sorted other rises =
    rises-one ordered rising (λ f. sum_by-IsPermutation f numbers ordered same ∙ sym (sum_by-IsPermutation f numbers rising other)) (rises-sorted ordered sorted) rises
