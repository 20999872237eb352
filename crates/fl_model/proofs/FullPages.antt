-- The pages that aren't void, counted from the oldest on.
use Rattle.std.proofs.Common.{◌≡◌, ℕ, zero, suc, ◌+◌, ◌<◌, ◌≤◌, ◌⊎◌, inl, inr, cond, nat_lt, Some, List, [], ◌∷◌, ◌++◌, length, take, drop, refl, sym, ◌∙◌, ap, arith}
use Rattle.std.proofs.lemmas.Bool.{cases_lt, lt-ltb}
use Rattle.std.proofs.lemmas.List.{take-take, drop-take, take-append-drop, take-append-le, take_all}
use Rattle.std.proofs.lemmas.List.Sums.{sum_by-append}
use Rattle.std.specs.List.{slice_get}
use Rattle.std.proofs.lemmas.Option.{none-some}
use Rattle.fl_model.specs.Table.{full_pages}

pub full-append : (a b : List ℕ) → full_pages (a ++ b) ≡ full_pages a + full_pages b
full-append a b = sum_by-append (λ (x : ℕ). cond (nat_lt 0 x) 1 0) a b

pub full-cons : (c : ℕ) (counts : List ℕ) → full_pages (c ∷ counts) ≡ full_pages (c ∷ []) + full_pages counts
full-cons c counts = full-append (c ∷ []) counts

pub full-one : (c : ℕ) → 0 < c → full_pages (c ∷ []) ≡ 1
full-one c h = ap (λ b. 0 + cond b 1 0) (lt-ltb 0 c h)

pub full-void : (c : ℕ) → c ≤ 0 → full_pages (c ∷ []) ≡ 0
full-void c h = let e : c ≡ 0 = omega (arith, h) in ap (λ k. full_pages (k ∷ [])) e

pub full-pushed : (counts more : List ℕ) (i : ℕ) → i ≤ length counts → full_pages (take i (counts ++ more)) ≡ full_pages (take i counts)
full-pushed counts more i h = ap full_pages (take-append-le i counts more h)

pub full-last : (counts more : List ℕ) → full_pages (take (length counts) (counts ++ more)) ≡ full_pages counts
full-last counts more = full-pushed counts more (length counts) (omega arith) ∙ ap full_pages (take_all (length counts) counts (omega arith))

pub full-dropped : (p i : ℕ) (counts : List ℕ) → full_pages (take (p + i) counts) ≡ full_pages (take p counts) + full_pages (take i (drop p counts))
full-dropped p i counts =
    ap full_pages (sym (take-append-drop p (take (p + i) counts)))
    ∙ (full-append (take p (take (p + i) counts)) (drop p (take (p + i) counts))
    ∙ (ap (λ (xs : List ℕ). full_pages xs + full_pages (drop p (take (p + i) counts))) (take-take p (p + i) counts (omega arith))
    ∙ ap (λ (xs : List ℕ). full_pages (take p counts) + full_pages xs) (drop-take p i counts)))

pub full-split : (p : ℕ) (counts : List ℕ) → full_pages (take p counts) + full_pages (drop p counts) ≡ full_pages counts
full-split p counts = sym (full-append (take p counts) (drop p counts)) ∙ ap full_pages (take-append-drop p counts)

-- a page that isn't void counts in each longer front
pub full-below : (counts : List ℕ) (i j c : ℕ) → i < j → slice_get counts i ≡ Some c → 0 < c → full_pages (take i counts) + 1 ≤ full_pages (take j counts)
full-below [] i j c lt e some = absurd (none-some c e)
full-below (x ∷ xs) zero zero c lt e some = absurd (omega arith)
full-below (x ∷ xs) zero (suc j) c lt e some =
    let same : x ≡ c = cc in
    let one = full-one x (omega (arith, same, some)) in
    omega (arith, full-cons x (take j xs), one)
full-below (x ∷ xs) (suc i) zero c lt e some = absurd (omega arith)
full-below (x ∷ xs) (suc i) (suc j) c lt e some =
    omega (arith, full-cons x (take i xs), full-cons x (take j xs), full-below xs i j c (omega arith) e some)

pub full-within : (counts : List ℕ) (i c : ℕ) → i < length counts → slice_get counts i ≡ Some c → 0 < c → full_pages (take i counts) < full_pages counts
full-within counts i c lt e some =
    let all : full_pages (take (length counts) counts) ≡ full_pages counts = ap full_pages (take_all (length counts) counts (omega arith)) in
    omega (arith, full-below counts i (length counts) c lt e some, all)

-- the place of the k-th page that isn't void
pub record IsFullPage (counts : List ℕ) (k : ℕ) : Type 0 where
  pub i : ℕ
  pub c : ℕ
  pub here : slice_get counts i ≡ Some c
  pub some : 0 < c
  pub before : full_pages (take i counts) ≡ k

pub full-page : (counts : List ℕ) (k : ℕ) → k < full_pages counts → IsFullPage counts k
full-page [] k h = absurd (none h)
  where
    none : k < 0 → ⊥
    none h = omega arith
full-page (x ∷ xs) k h = by_count (λ k h. full-page xs k h) (cases_lt 0 x) k (subst_lt h)
  where
    subst_lt : k < full_pages (x ∷ xs) → k < full_pages (x ∷ []) + full_pages xs
    subst_lt h = omega (arith, h, full-cons x xs)

    later : (k : ℕ) → IsFullPage xs k → (m : ℕ) → full_pages (x ∷ []) + k ≡ m → IsFullPage (x ∷ xs) m
    later k f m e = record { i = suc f.i; c = f.c; here = f.here; some = f.some; before = omega (arith, full-cons x (take f.i xs), f.before, e) }

    by_count : ((k : ℕ) → k < full_pages xs → IsFullPage xs k) → (0 < x) ⊎ (x ≤ 0) → (k : ℕ) → k < full_pages (x ∷ []) + full_pages xs → IsFullPage (x ∷ xs) k
    by_count others (inl some) zero h = record { i = 0; c = x; here = refl; some = some; before = refl }
    by_count others (inl some) (suc k) h = let one = full-one x some in later k (others k (omega (arith, h, one))) (suc k) (omega (arith, one))
    by_count others (inr none) k h = let one = full-void x none in later k (others k (omega (arith, h, one))) k (omega (arith, one))
