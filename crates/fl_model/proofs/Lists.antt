-- Lists, element by element.
use Rattle.std.proofs.Common.{◌≡◌, ℕ, zero, suc, ◌+◌, ◌-◌, ◌<◌, ◌≤◌, Bool, true, false, cond, ◌&&◌, Option, Some, is_some, option_map, IsTrue, List, [], ◌∷◌, ◌++◌, map, length, take, drop, filter, sum_by, refl, sym, ◌∙◌, ap, subst, arith, length-take, ◌⊎◌, inl, inr}
use Rattle.std.specs.List.{slice_get, list_any, AllByRecursion, last_or, sum}
use Rattle.std.proofs.lemmas.Bool.{cases_lt, or_parts}
use Rattle.std.proofs.lemmas.List.{drop_all, drop-take, take-take}
use Rattle.std.proofs.lemmas.List.Sums.{sum_by-append, sum_by_push, sum_by-take-le}
use Rattle.std.proofs.lemmas.Option.{none-some, slice_get-map, get_or_from_slice_get}
use Rattle.std.proofs.Math.Seq.{take-add, take-suc, drop-cons}
pub use Rattle.std.proofs.lemmas.Option.{slice_get_within as slice_get-short}
pub use Rattle.std.proofs.lemmas.Map.Keys.{any_passes_from_place as any-at}

pub slice_get-drop : {X : Type 0} (n : ℕ) (xs : List X) (i : ℕ) → slice_get (drop n xs) i ≡ slice_get xs (n + i)
slice_get-drop zero [] i = refl
slice_get-drop zero (x ∷ xs) i = ap (slice_get (x ∷ xs)) (let e : i ≡ 0 + i = omega arith in e)
slice_get-drop (suc n) [] i = refl
slice_get-drop (suc n) (x ∷ xs) i = slice_get-drop n xs i ∙ ap (slice_get (x ∷ xs)) (let e : suc (n + i) ≡ suc n + i = omega arith in e)

pub slice_get-take : {X : Type 0} (n : ℕ) (xs : List X) (i : ℕ) → i < n → slice_get (take n xs) i ≡ slice_get xs i
slice_get-take zero xs i h = absurd (omega arith)
slice_get-take (suc n) [] i h = refl
slice_get-take (suc n) (x ∷ xs) zero h = refl
slice_get-take (suc n) (x ∷ xs) (suc i) h = slice_get-take n xs i (omega arith)

-- what stands in a front of a list stands there in the list
pub slice_get-front : {X : Type 0} (n : ℕ) (xs : List X) (i : ℕ) (x : X) → slice_get (take n xs) i ≡ Some x → slice_get xs i ≡ Some x
slice_get-front zero [] i x h = h
slice_get-front {X} zero (y ∷ ys) i x h = absurd (none-some x h)
slice_get-front (suc n) [] i x h = h
slice_get-front (suc n) (y ∷ ys) zero x h = h
slice_get-front (suc n) (y ∷ ys) (suc i) x h = slice_get-front n ys i x h

pub slice_get-left : {X : Type 0} (xs ys : List X) (i : ℕ) → i < length xs → slice_get (xs ++ ys) i ≡ slice_get xs i
slice_get-left [] ys i h = absurd (omega arith)
slice_get-left (x ∷ xs) ys zero h = refl
slice_get-left (x ∷ xs) ys (suc i) h = slice_get-left xs ys i (omega arith)

-- a list with one more element
pub slice_get-push : {X : Type 0} (xs : List X) (y : X) (i : ℕ) (x : X) → slice_get (xs ++ y ∷ []) i ≡ Some x → (slice_get xs i ≡ Some x) ⊎ ((i ≡ length xs) × (y ≡ x))
slice_get-push {X} [] y zero x h = inr (refl, cc)
slice_get-push {X} [] y (suc i) x h = absurd (none-some x h)
slice_get-push (z ∷ zs) y zero x h = inl h
slice_get-push (z ∷ zs) y (suc i) x h = elim (slice_get-push zs y i x h) [ inl e ↦ inl e | inr e ↦ inr (ap suc e.0, e.1) ]

pub slice_get-last : {X : Type 0} (xs : List X) (y : X) → slice_get (xs ++ y ∷ []) (length xs) ≡ Some y
slice_get-last [] y = refl
slice_get-last (x ∷ xs) y = slice_get-last xs y

pub slice_get-some : {X : Type 0} (xs : List X) (i : ℕ) → i < length xs → (x : X) × (slice_get xs i ≡ Some x)
slice_get-some [] i h = absurd (omega arith)
slice_get-some (x ∷ xs) zero h = (x, refl)
slice_get-some (x ∷ xs) (suc i) h = slice_get-some xs i (omega arith)

pub slice_get-mapped : {X Y : Type 0} (f : X → Y) (xs : List X) (i : ℕ) (x : X) → slice_get xs i ≡ Some x → slice_get (map f xs) i ≡ Some (f x)
slice_get-mapped f xs i x e = slice_get-map f xs i ∙ ap (option_map f) e

-- the elements from a place on, and those up to it
pub drop_none : {X : Type 0} (xs : List X) → drop 0 xs ≡ xs
drop_none [] = refl
drop_none (x ∷ xs) = refl

pub take_none : {X : Type 0} (xs : List X) → take 0 xs ≡ []
take_none [] = refl
take_none (x ∷ xs) = refl

pub drop-at : {X : Type 0} (xs : List X) (i : ℕ) (x : X) → slice_get xs i ≡ Some x → drop i xs ≡ x ∷ drop (suc i) xs
drop-at xs i x e = drop-cons xs i x (slice_get-short xs i x e) ∙ ap (λ y. y ∷ drop (suc i) xs) (get_or_from_slice_get xs i x x e)

pub take-next : {X : Type 0} (xs : List X) (i : ℕ) (x : X) → slice_get xs i ≡ Some x → take (suc i) xs ≡ take i xs ++ x ∷ []
take-next xs i x e = take-suc xs i x (slice_get-short xs i x e) ∙ ap (λ y. take i xs ++ y ∷ []) (get_or_from_slice_get xs i x x e)

pub take-one_more : {X : Type 0} (xs : List X) (i : ℕ) (x : X) → slice_get xs i ≡ Some x → take (i + 1) xs ≡ take i xs ++ x ∷ []
take-one_more xs i x e = ap (λ n. take n xs) (let k : i + 1 ≡ suc i = omega arith in k) ∙ take-next xs i x e

pub drop-in-take : {X : Type 0} (m n : ℕ) (xs : List X) → drop m (take n xs) ≡ take (n - m) (drop m xs)
drop-in-take m n xs = by_order (cases_lt n m)
  where
    by_order : (n < m) ⊎ (m ≤ n) → drop m (take n xs) ≡ take (n - m) (drop m xs)
    by_order (inl lt) =
        let none : n - m ≡ 0 = omega (arith, lt) in
        drop_all m (take n xs) (let l = length-take n xs in omega (arith, l, lt)) ∙ sym (ap (λ (k : ℕ). take k (drop m xs)) none ∙ take_none (drop m xs))
    by_order (inr le) = let all : n ≡ m + (n - m) = omega (arith, le) in ap (λ (k : ℕ). drop m (take k xs)) all ∙ drop-take m (n - m) xs

pub take-drop-take : {X : Type 0} (m n k : ℕ) (xs : List X) → n + m ≤ k → take m (drop n (take k xs)) ≡ take m (drop n xs)
take-drop-take m n k xs le = ap (take m) (drop-in-take n k xs) ∙ take-take m (k - n) (drop n xs) (omega (arith, le))

-- a list of which a part is none
pub nil_front : {X : Type 0} (xs ys : List X) → xs ++ ys ≡ [] → xs ≡ []
nil_front [] ys e = refl
nil_front (x ∷ xs) ys e = cc

pub nil_map : {X Y : Type 0} (f : X → Y) (xs : List X) → map f xs ≡ [] → xs ≡ []
nil_map f [] e = refl
nil_map f (x ∷ xs) e = cc

pub push_not_nil : {X : Type 0} (xs : List X) (x : X) → xs ++ x ∷ [] ≡ [] → ⊥
push_not_nil [] x e = cc e
push_not_nil (y ∷ xs) x e = cc e

-- the last element
pub last_or-append : {X : Type 0} (o : Option X) (xs ys : List X) → last_or o (xs ++ ys) ≡ last_or (last_or o xs) ys
last_or-append o [] ys = refl
last_or-append o (x ∷ xs) ys = last_or-append (Some x) xs ys

pub last_or-back : {X : Type 0} (o : Option X) (xs ys : List X) → 0 < length ys → last_or o (xs ++ ys) ≡ last_or o ys
last_or-back o xs [] some = absurd (omega (arith, some))
last_or-back o xs (y ∷ ys) some = last_or-append o xs (y ∷ ys)

pub last_or-some : {X : Type 0} (x : X) (xs : List X) → (y : X) × (last_or (Some x) xs ≡ Some y)
last_or-some x [] = (x, refl)
last_or-some x (y ∷ ys) = last_or-some y ys

pub last_or-is_some : {X : Type 0} (o : Option X) (xs : List X) → IsTrue (is_some o) → IsTrue (is_some (last_or o xs))
last_or-is_some o [] h = h
last_or-is_some o (x ∷ xs) h = last_or-is_some (Some x) xs refl

pub last_or-push : {X : Type 0} (o : Option X) (xs : List X) (y : X) → last_or o (xs ++ y ∷ []) ≡ Some y
last_or-push o [] y = refl
last_or-push o (x ∷ xs) y = last_or-push (Some x) xs y

pub last_or-get : {X : Type 0} (o : Option X) (x : X) (xs : List X) → last_or o (x ∷ xs) ≡ slice_get (x ∷ xs) (length xs)
last_or-get o x [] = refl
last_or-get o x (y ∷ ys) = last_or-get (Some x) y ys

-- what holds of each element
pub each-drop : {X : Type 0} (P : X → Type 0) (n : ℕ) (xs : List X) → AllByRecursion P xs → AllByRecursion P (drop n xs)
each-drop P zero [] h = h
each-drop P zero (x ∷ xs) h = h
each-drop P (suc n) [] h = h
each-drop P (suc n) (x ∷ xs) h = each-drop P n xs h.1

pub each-take : {X : Type 0} (P : X → Type 0) (n : ℕ) (xs : List X) → AllByRecursion P xs → AllByRecursion P (take n xs)
each-take P zero [] h = tt
each-take P zero (x ∷ xs) h = tt
each-take P (suc n) [] h = tt
each-take P (suc n) (x ∷ xs) h = (h.0, each-take P n xs h.1)

pub each-push : {X : Type 0} (P : X → Type 0) (xs : List X) (y : X) → AllByRecursion P xs → P y → AllByRecursion P (xs ++ y ∷ [])
each-push P [] y h k = (k, tt)
each-push P (x ∷ xs) y h k = (h.0, each-push P xs y h.1 k)

pub each-at : {X : Type 0} (P : X → Type 0) (xs : List X) (i : ℕ) (x : X) → AllByRecursion P xs → slice_get xs i ≡ Some x → P x
each-at {X} P [] i x h e = absurd (none-some x e)
each-at {X} P (y ∷ ys) zero x h e = let same : y ≡ x = cc in subst P same h.0
each-at P (y ∷ ys) (suc i) x h e = each-at P ys i x h.1 e

pub each-weaker : {X : Type 0} (P Q : X → Type 0) → ((x : X) → P x → Q x) → (xs : List X) → AllByRecursion P xs → AllByRecursion Q xs
each-weaker P Q go [] h = tt
each-weaker P Q go (x ∷ xs) h = (go x h.0, each-weaker P Q go xs h.1)

-- no element passes a test
pub any-drop : {X : Type 0} (p : X → Bool) (n : ℕ) (xs : List X) → list_any p xs ≡ false → list_any p (drop n xs) ≡ false
any-drop p zero [] h = h
any-drop p zero (x ∷ xs) h = h
any-drop p (suc n) [] h = h
any-drop p (suc n) (x ∷ xs) h = any-drop p n xs (or_parts (p x) (list_any p xs) h).1

pub and_right : (a b : Bool) → (a && b) ≡ true → b ≡ true
and_right true b h = h
and_right false b h = cc

pub each-append : {X : Type 0} (P : X → Type 0) (xs ys : List X) → AllByRecursion P xs → AllByRecursion P ys → AllByRecursion P (xs ++ ys)
each-append P [] ys h k = k
each-append P (x ∷ xs) ys h k = (h.0, each-append P xs ys h.1 k)

pub each-front : {X : Type 0} (P : X → Type 0) (xs ys : List X) → AllByRecursion P (xs ++ ys) → AllByRecursion P xs
each-front P [] ys h = tt
each-front P (x ∷ xs) ys h = (h.0, each-front P xs ys h.1)

pub each-back : {X : Type 0} (P : X → Type 0) (xs ys : List X) → AllByRecursion P (xs ++ ys) → AllByRecursion P ys
each-back P [] ys h = h
each-back P (x ∷ xs) ys h = each-back P xs ys h.1

-- what a test keeps
pub length-filter-le : {X : Type 0} (p : X → Bool) (xs : List X) → length (filter p xs) ≤ length xs
length-filter-le p [] = omega arith
length-filter-le p (x ∷ xs) = by_test (p x) (length-filter-le p xs)
  where
    by_test : (b : Bool) → length (filter p xs) ≤ length xs → length (cond b (x ∷ filter p xs) (filter p xs)) ≤ length (x ∷ xs)
    by_test true le = omega (arith, le)
    by_test false le = omega (arith, le)

pub each-filter : {X : Type 0} (P : X → Type 0) (p : X → Bool) (xs : List X) → AllByRecursion P xs → AllByRecursion P (filter p xs)
each-filter P p [] all = tt
each-filter {X} P p (x ∷ xs) all = by_test (p x) (each-filter P p xs all.1)
  where
    by_test : (b : Bool) → AllByRecursion P (filter p xs) → AllByRecursion P (cond b (x ∷ filter p xs) (filter p xs))
    by_test true h = (all.0, h)
    by_test false h = h

-- the sum of a list is that of its parts
pub sum_take_more : (m n : ℕ) (xs : List ℕ) → sum (take (m + n) xs) ≡ sum (take m xs) + sum (take n (drop m xs))
sum_take_more m n xs = ap sum (take-add m n xs) ∙ sum_by-append (λ (k : ℕ). k) (take m xs) (take n (drop m xs))

pub sum_by-next : {X : Type 0} (f : X → ℕ) (xs : List X) (i : ℕ) (x : X) → slice_get xs i ≡ Some x → sum_by f (take (suc i) xs) ≡ sum_by f (take i xs) + f x
sum_by-next f xs i x e = ap (sum_by f) (take-next xs i x e) ∙ sum_by_push f (take i xs) x

pub sum-within : (xs : List ℕ) (i x : ℕ) → slice_get xs i ≡ Some x → sum (take i xs) + x ≤ sum xs
sum-within xs i x e = omega (arith, sum_by-next (λ (n : ℕ). n) xs i x e, sum_by-take-le (λ (n : ℕ). n) xs (suc i))
