-- Lists that are gathered over a range of numbers, from any of them around to it again.
use Rattle.std.proofs.Common.{◌≡◌, inl, inr, ℕ, zero, suc, ◌+◌, ◌-◌, ◌*◌, ◌/◌, ◌%◌, ◌<◌, ◌≤◌, Bool, true, false, nat_lt, Some, List, [], ◌∷◌, ◌++◌, length, take, drop, refl, sym, ◌∙◌, ap, subst, arith, append_assoc, append-nil, length-drop}
use Rattle.std.proofs.Math.Nat.{mod-add-div'}
use Rattle.std.proofs.lemmas.Bool.{cases_lt}
use Rattle.std.proofs.lemmas.List.{take-append-drop, drop-drop}
use Rattle.std.proofs.lemmas.List.Sorted.{IsPermutation-append_comm}
use Rattle.std.proofs.lemmas.List.Sums.{sum_by-cons}
use Rattle.std.proofs.lemmas.Nat.{mod-mul-add, mod_below}
use Rattle.std.specs.List.{AllByRecursion, flat_map, slice_get, sum}
use Rattle.std.specs.List.Sorted.{IsPermutation}
use Rattle.std.proofs.lemmas.Grind.{flat_map-append}
use Rattle.fl_model.proofs.Lists.{drop_none}
use Rattle.fl_saved.proofs.Orders.{Rises}

-- the lists of so many numbers from one on
abbrev pub gather : {X : Type 0} → (ℕ → List X) → ℕ → ℕ → List X
gather f from zero = []
gather f from (suc n) = f from ++ gather f (from + 1) n

pub gather-add : {X : Type 0} (f : ℕ → List X) (a m n : ℕ) → gather f a (m + n) ≡ gather f a m ++ gather f (a + m) n
gather-add f a zero n =
    let e : zero + n ≡ n = omega arith in
    let k : a ≡ a + zero = omega arith in
    ap (gather f a) e ∙ ap (λ (b : ℕ). gather f b n) k
gather-add f a (suc m) n =
    let e : suc m + n ≡ suc (m + n) = omega arith in
    let k : a + 1 + m ≡ a + suc m = omega arith in
    ap (gather f a) e ∙ ap (λ l. f a ++ l) (gather-add f (a + 1) m n ∙ ap (λ (b : ℕ). gather f (a + 1) m ++ gather f b n) k)
    ∙ sym (append_assoc (f a) (gather f (a + 1) m) (gather f (a + suc m) n))

pub gather-next : {X : Type 0} (f : ℕ → List X) (n : ℕ) → gather f 0 (suc n) ≡ gather f 0 n ++ f n
gather-next f n =
    let e : suc n ≡ n + 1 = omega arith in
    let k : 0 + n ≡ n = omega arith in
    ap (gather f 0) e ∙ gather-add f 0 n 1 ∙ ap (λ l. gather f 0 n ++ l) (append-nil (f (0 + n)) ∙ ap f k)

pub gather-same : {X : Type 0} (f g : ℕ → List X) (a b n : ℕ) → ((i : ℕ) → i < n → f (a + i) ≡ g (b + i)) → gather f a n ≡ gather g b n
gather-same f g a b zero h = refl
gather-same f g a b (suc n) h =
    let k : a ≡ a + 0 = omega arith in
    let l : b + 0 ≡ b = omega arith in
    let here : f a ≡ g b = ap f k ∙ h 0 (omega arith) ∙ ap g l in
    ap (λ xs. xs ++ gather f (a + 1) n) here
    ∙ ap (λ xs. g b ++ xs) (gather-same f g (a + 1) (b + 1) n (λ i lt.
    let p : a + 1 + i ≡ a + suc i = omega arith in
    let q : b + suc i ≡ b + 1 + i = omega arith in
    ap f p ∙ h (suc i) (omega (arith, lt)) ∙ ap g q))

pub gather-none : {X : Type 0} (f : ℕ → List X) (a n : ℕ) → ((i : ℕ) → i < n → f (a + i) ≡ []) → gather f a n ≡ []
gather-none f a zero h = refl
gather-none f a (suc n) h =
    let k : a ≡ a + 0 = omega arith in
    ap (λ xs. xs ++ gather f (a + 1) n) (ap f k ∙ h 0 (omega arith))
    ∙ gather-none f (a + 1) n (λ i lt. let p : a + 1 + i ≡ a + suc i = omega arith in ap f p ∙ h (suc i) (omega (arith, lt)))

-- ---- texts

pub flat-gather : {X Y : Type 0} (k : X → List Y) (f : ℕ → List X) (a n : ℕ) → flat_map k (gather f a n) ≡ gather (λ i. flat_map k (f i)) a n
flat-gather k f a zero = refl
flat-gather k f a (suc n) = flat_map-append k (f a) (gather f (a + 1) n) ∙ ap (λ l. flat_map k (f a) ++ l) (flat-gather k f (a + 1) n)

-- what stands in parts, as many as these counts say, one after another
pub gather-parts : {X Y : Type 0} (k : X → List Y) (f : ℕ → List Y) (a : ℕ) (counts : List ℕ) (xs : List X) → sum counts ≡ length xs
    → ((i c : ℕ) → slice_get counts i ≡ Some c → f (a + i) ≡ flat_map k (take c (drop (sum (take i counts)) xs))) → gather f a (length counts) ≡ flat_map k xs
gather-parts k f a [] [] all h = refl
gather-parts k f a [] (x ∷ xs) all h = let no : ⊥ = omega (arith, all) in absurd no
gather-parts {X} k f a (c ∷ counts) xs all h =
    let here : a ≡ a + 0 = omega arith in
    let total = sum_by-cons (λ (n : ℕ). n) c counts in
    ap (λ l. l ++ gather f (a + 1) (length counts)) (ap f here ∙ h 0 c refl ∙ ap (λ l. flat_map k (take c l)) (drop_none xs))
    ∙ ap (λ l. flat_map k (take c xs) ++ l) (gather-parts k f (a + 1) counts (drop c xs) (omega (arith, all, total, length-drop c xs)) (λ i d e.
    let p : a + 1 + i ≡ a + suc i = omega arith in
    let part : drop (sum (take (suc i) (c ∷ counts))) xs ≡ drop (sum (take i counts)) (drop c xs) = ap (λ n. drop n xs) (sum_by-cons (λ (n : ℕ). n) c (take i counts)) ∙ sym (drop-drop (sum (take i counts)) c xs) in
    ap f p ∙ h (suc i) d e ∙ ap (λ l. flat_map k (take d l)) part))
    ∙ sym (flat_map-append k (take c xs) (drop c xs)) ∙ ap (flat_map k) (take-append-drop c xs)

-- ---- around a ring

-- What is gathered by places from 0 on is what is gathered by numbers from any one on, but for the order.
pub gather-turned : {X : Type 0} (f g : ℕ → List X) (from n : ℕ) → 0 < n → ((m : ℕ) → from ≤ m → m < from + n → f (m % n) ≡ g m) → IsPermutation (gather f 0 n) (gather g from n)
gather-turned {X} f g from n some h =
    let s = from % n in
    let below : from % n < n = mod_below from n some in
    let t = n - from % n in
    let all : n ≡ from % n + (n - from % n) = omega (arith, below) in
    let back : n ≡ (n - from % n) + from % n = omega (arith, below) in
    let whole : from ≡ from / n * n + from % n = omega (arith, mod-add-div' from n) in
    let split : gather f 0 n ≡ gather f 0 s ++ gather f (0 + s) t = ap (gather f 0) all ∙ gather-add f 0 s t in
    let late : gather f (0 + s) t ≡ gather g from t = gather-same f g (0 + s) from t (λ i lt.
    let e : from + i ≡ from / n * n + (from % n + i) = omega (arith, whole) in
    let fits : from % n + i < n = omega (arith, lt, below) in
    let place : (from + i) % n ≡ 0 + from % n + i = ap (λ m. m % n) e ∙ mod-mul-add (from / n) n (from % n + i) fits ∙ omega arith in
    ap f (sym place) ∙ h (from + i) (omega arith) (omega (arith, fits))) in
    let early : gather f 0 s ≡ gather g (from + t) s = gather-same f g 0 (from + t) s (λ i lt.
    let e : from + t + i ≡ (from / n + 1) * n + i = omega (arith, whole, back) in
    let fits : i < n = omega (arith, lt, below) in
    let place : (from + t + i) % n ≡ 0 + i = ap (λ m. m % n) e ∙ mod-mul-add (from / n + 1) n i fits ∙ omega arith in
    ap f (sym place) ∙ h (from + t + i) (omega arith) (omega (arith, lt, back))) in
    let joined : gather g from t ++ gather g (from + t) s ≡ gather g from n = sym (gather-add g from t s) ∙ ap (gather g from) (sym back) in
    subst (λ l. IsPermutation l (gather g from n)) (sym split)
    (subst (λ l. IsPermutation (gather f 0 s ++ gather f (0 + s) t) l) joined
    (subst (λ l. IsPermutation (gather f 0 s ++ gather f (0 + s) t) (gather g from t ++ l)) early
    (subst (λ l. IsPermutation (gather f 0 s ++ gather f (0 + s) t) (l ++ gather f 0 s)) late
    (IsPermutation-append_comm (gather f 0 s) (gather f (0 + s) t)))))

-- the number of a place in a round from any number on
pub record IsNumberOf (from n place : ℕ) : Type 0 where
  pub number : ℕ
  pub low : from ≤ number
  pub high : number < from + n
  pub placed : number % n ≡ place

pub number-of-place : (from n place : ℕ) → place < n → IsNumberOf from n place
number-of-place from n place lt =
    let below : from % n < n = mod_below from n (omega (arith, lt)) in
    let whole : from ≡ from / n * n + from % n = omega (arith, mod-add-div' from n) in
    elim (cases_lt place (from % n)) [
      | inl early ↦
          let e : from + (n - from % n) + place ≡ (from / n + 1) * n + place = omega (arith, whole, below) in
          record { number = from + (n - from % n) + place; low = omega arith; high = omega (arith, early, below); placed = ap (λ m. m % n) e ∙ mod-mul-add (from / n + 1) n place lt }
      | inr late ↦
          let e : from + (place - from % n) ≡ from / n * n + place = omega (arith, whole, late) in
          record { number = from + (place - from % n); low = omega arith; high = omega (arith, lt, late); placed = ap (λ m. m % n) e ∙ mod-mul-add (from / n) n place lt }
    ]

-- ---- numbers

abbrev pub if_some : Bool → ℕ → List ℕ
if_some true m = m ∷ []
if_some false m = []

-- the number, where it has some count
abbrev pub number_if : (ℕ → ℕ) → ℕ → List ℕ
number_if count m = if_some (nat_lt 0 (count m)) m

each-above : (count : ℕ → ℕ) (least a n : ℕ) → least ≤ a → AllByRecursion (λ y. least ≤ y) (gather (number_if count) a n)
each-above count least a zero le = tt
each-above count least a (suc n) le = by_test (nat_lt 0 (count a)) (each-above count least (a + 1) n (omega (arith, le)))
  where
    by_test : (b : Bool) → AllByRecursion (λ y. least ≤ y) (gather (number_if count) (a + 1) n) → AllByRecursion (λ y. least ≤ y) (if_some b a ++ gather (number_if count) (a + 1) n)
    by_test true h = (le, h)
    by_test false h = h

pub gathered-rise : (count : ℕ → ℕ) (a n : ℕ) → Rises (gather (number_if count) a n)
gathered-rise count a zero = tt
gathered-rise count a (suc n) = by_test (nat_lt 0 (count a)) (gathered-rise count (a + 1) n)
  where
    by_test : (b : Bool) → Rises (gather (number_if count) (a + 1) n) → Rises (if_some b a ++ gather (number_if count) (a + 1) n)
    by_test true h = (each-above count a (a + 1) n (omega arith), h)
    by_test false h = h
