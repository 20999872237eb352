-- What the kept pages of a ring hold, as one list.
use Rattle.std.proofs.Common.{◌≡◌, ℕ, zero, suc, ◌+◌, ◌<◌, Bool, cond, nat_lt, List, [], ◌∷◌, ◌++◌, length, map, take, drop, sum, filter, get_or, slice_get, Option, Some, None, refl, sym, ◌∙◌, ap, subst, arith, length-append}
use Rattle.std.specs.List.{flat_map, AllByRecursion}
use Rattle.std.proofs.Math.Seq.{take-append_seam, drop-append-add}
use Rattle.std.proofs.lemmas.Bool.{lt-ltb}
use Rattle.std.proofs.lemmas.List.Sums.{sum_by-cons}
use Rattle.std.proofs.lemmas.Option.{none-some, same_Some}
use Rattle.fl_model.specs.Table.{full_pages}
use Rattle.fl_model.proofs.FullPages.{full-cons, full-one}
use Rattle.fl_model.proofs.Lists.{each-append}
use Rattle.fl_ring.specs.Counts.{page_count}

-- the pieces of a list that the elements of another one make
pub piece : {A B : Type 0} (f : A → List B) (counts : A → ℕ) → ((a : A) → counts a ≡ length (f a)) → (xs : List A) (i : ℕ) (d : A) → i < length xs →
    take (counts (get_or xs i d)) (drop (sum (take i (map counts xs))) (flat_map f xs)) ≡ f (get_or xs i d)
piece f counts same [] i d lt = absurd (omega arith)
piece f counts same (x ∷ xs) zero d lt = ap (λ (n : ℕ). take n (f x ++ flat_map f xs)) (same x) ∙ take-append_seam (f x) (flat_map f xs)
piece f counts same (x ∷ xs) (suc i) d lt =
    let here : sum (counts x ∷ take i (map counts xs)) ≡ counts x + sum (take i (map counts xs)) = sum_by-cons (λ (n : ℕ). n) (counts x) (take i (map counts xs)) in
    ap (λ (n : ℕ). take (counts (get_or xs i d)) (drop n (f x ++ flat_map f xs))) here
    ∙ ap (λ (n : ℕ). take (counts (get_or xs i d)) (drop (n + sum (take i (map counts xs))) (f x ++ flat_map f xs))) (same x)
    ∙ ap (λ (l : List _). take (counts (get_or xs i d)) l) (drop-append-add (f x) (flat_map f xs) (sum (take i (map counts xs))))
    ∙ piece f counts same xs i d (omega arith)

-- the pieces have the elements of the whole, and what holds of them holds of each
pub all-map : {A B : Type 0} (f : A → B) (P : B → Type 0) (xs : List A) (d : A) → ((i : ℕ) → i < length xs → P (f (get_or xs i d))) → AllByRecursion P (map f xs)
all-map f P [] d all = tt
all-map f P (x ∷ xs) d all = (all 0 (omega arith), all-map f P xs d (λ i lt. all (suc i) (omega (arith, lt))))

pub all-flat : {A B : Type 0} (f : A → List B) (P : B → Type 0) (xs : List A) (d : A) → ((i : ℕ) → i < length xs → AllByRecursion P (f (get_or xs i d))) → AllByRecursion P (flat_map f xs)
all-flat f P [] d all = tt
all-flat f P (x ∷ xs) d all = each-append P (f x) (flat_map f xs) (all 0 (omega arith)) (all-flat f P xs d (λ i lt. all (suc i) (omega (arith, lt))))

pub sum-flat : {A B : Type 0} (f : A → List B) (counts : A → ℕ) → ((a : A) → counts a ≡ length (f a)) → (xs : List A) → sum (map counts xs) ≡ length (flat_map f xs)
sum-flat f counts same [] = refl
sum-flat f counts same (x ∷ xs) =
    let here : sum (counts x ∷ map counts xs) ≡ counts x + sum (map counts xs) = sum_by-cons (λ (n : ℕ). n) (counts x) (map counts xs) in
    let there : length (f x ++ flat_map f xs) ≡ length (f x) + length (flat_map f xs) = length-append (f x) (flat_map f xs) in
    omega (arith, here, there, same x, sum-flat f counts same xs)

-- what a page holds
pub record Held (X : Type 0) (Fits Is : X → Type 0) : Type 0 where
  pub holds : X
  pub fit : Fits holds
  pub is : Is holds

-- the list of what the pages with a body hold
pub record Collected (X : Type 0) (Fits : X → Type 0) (count_of : List ℕ → ℕ) (kept : List (Option (List ℕ))) (P : ℕ → List ℕ → X → Type 0) : Type 0 where
  pub pages : List X
  pub many : length pages ≡ full_pages (map (page_count count_of) kept)
  pub fit : AllByRecursion Fits pages
  pub each : (i : ℕ) (body : List ℕ) → i < length kept → get_or kept i None ≡ Some body →
      (x : X) × (slice_get pages (full_pages (take i (map (page_count count_of) kept))) ≡ Some x) × P i body x
  -- where each has the size that its body tells
  pub sizes : (size : X → ℕ) → ((i : ℕ) (body : List ℕ) (x : X) → P i body x → size x ≡ count_of body) → map size pages ≡ filter (nat_lt 0) (map (page_count count_of) kept)

pub collect : (X : Type 0) (Fits : X → Type 0) (count_of : List ℕ → ℕ) (kept : List (Option (List ℕ))) (P : ℕ → List ℕ → X → Type 0) →
    ((i : ℕ) (body : List ℕ) → i < length kept → get_or kept i None ≡ Some body → (0 < count_of body) × Held X Fits (P i body)) → Collected X Fits count_of kept P
collect X Fits count_of [] P all = record { pages = []; many = refl; fit = tt; each = λ i body lt. absurd (let never : ⊥ = omega (arith, lt) in never); sizes = λ size same. refl }
collect X Fits count_of (None ∷ kept) P all =
    let rest = collect X Fits count_of kept (λ i body x. P (suc i) body x) (λ i body lt is. all (suc i) body (omega (arith, lt)) is) in
    record { pages = rest.pages; many = rest.many; fit = rest.fit; each = each rest; sizes = λ size same. rest.sizes size (λ i body x is. same (suc i) body x is) }
  where
    each : (rest : Collected X Fits count_of kept (λ i body x. P (suc i) body x)) → (i : ℕ) (body : List ℕ) → i < suc (length kept) → get_or (None ∷ kept) i None ≡ Some body →
        (x : X) × (slice_get rest.pages (full_pages (take i (0 ∷ map (page_count count_of) kept))) ≡ Some x) × P i body x
    each rest zero body lt is = absurd (none-some body is)
    each rest (suc i) body lt is = rest.each i body (omega arith) is
collect X Fits count_of (Some body ∷ kept) P all =
    let here = all 0 body (omega arith) refl in
    let rest = collect X Fits count_of kept (λ i body x. P (suc i) body x) (λ i b lt is. all (suc i) b (omega (arith, lt)) is) in
    record {
      pages = here.1.holds ∷ rest.pages;
      many = ap suc rest.many ∙ sym (first here.0 (map (page_count count_of) kept));
      fit = (here.1.fit, rest.fit);
      each = each here.1.holds here.1.is rest here.0;
      sizes = λ size same.
          ap (λ (n : ℕ). n ∷ map size rest.pages) (same 0 body here.1.holds here.1.is)
          ∙ ap (λ (ns : List ℕ). count_of body ∷ ns) (rest.sizes size (λ i b x is. same (suc i) b x is)) ∙ sym (filter-first here.0 (map (page_count count_of) kept));
    }
  where
    first : 0 < count_of body → (counts : List ℕ) → full_pages (count_of body ∷ counts) ≡ suc (full_pages counts)
    first some counts = full-cons (count_of body) counts ∙ ap (λ (n : ℕ). n + full_pages counts) (full-one (count_of body) some) ∙ omega arith

    filter-first : 0 < count_of body → (counts : List ℕ) → filter (nat_lt 0) (count_of body ∷ counts) ≡ count_of body ∷ filter (nat_lt 0) counts
    filter-first some counts = ap (λ (b : Bool). cond b (count_of body ∷ filter (nat_lt 0) counts) (filter (nat_lt 0) counts)) (lt-ltb 0 (count_of body) some)

    each : (x : X) → P 0 body x → (rest : Collected X Fits count_of kept (λ i b y. P (suc i) b y)) → 0 < count_of body → (i : ℕ) (b : List ℕ) → i < suc (length kept) → get_or (Some body ∷ kept) i None ≡ Some b →
        (y : X) × (slice_get (x ∷ rest.pages) (full_pages (take i (count_of body ∷ map (page_count count_of) kept))) ≡ Some y) × P i b y
    each x holds rest one zero b lt is = (x, refl, subst (λ l. P 0 l x) (same_Some body b is) holds)
    each x holds rest one (suc i) b lt is =
        let later = rest.each i b (omega arith) is in
        (later.0, ap (λ (n : ℕ). slice_get (x ∷ rest.pages) n) (first one (take i (map (page_count count_of) kept))) ∙ later.1, later.2)
