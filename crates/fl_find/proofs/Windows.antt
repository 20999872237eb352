-- What the window of a key allows, and how many pages are looked at in it.
use Rattle.std.proofs.Common.{◌≡◌, ℕ, zero, suc, ◌+◌, ◌-◌, ◌*◌, ◌<◌, ◌≤◌, ◌⊎◌, inl, inr, ⊎_elim, min, false, Option, Some, None, refl, sym, ◌∙◌, ap, arith}
use Rattle.std.proofs.lemmas.Bool.{cases_lt, false≢true, true≢false}
use Rattle.fl_search.specs.Search.{IsPageOf, starts_by, looked_at, voids_in}
use Rattle.fl_search.proofs.Pages.{AreVoid, starts-void, starts-low, starts-high, voids-end, voids-split}

-- an estimate of a key's page, and the pages round it
pub record IsWindow (first : ℕ → Option ℕ) (lo hi key estimate error : ℕ) : Type 0 where
  pub from : (n x : ℕ) → lo ≤ n → n < hi → first n ≡ Some x → x ≤ key → n ≤ estimate + error
  pub to : (n x : ℕ) → lo ≤ n → n < hi → first n ≡ Some x → key < x → estimate ≤ n + error

-- a page above the window doesn't start by the key
above-window : (first : ℕ → Option ℕ) (lo hi key estimate error n : ℕ) → IsWindow first lo hi key estimate error → lo ≤ n → n < hi → estimate + error < n → starts_by first key n ≡ false
above-window first lo hi key estimate error n window from before above = by_first (first n) refl
  where
    by_first : (o : Option ℕ) → first n ≡ o → starts_by first key n ≡ false
    by_first None e = starts-void first key n e
    by_first (Some x) e = ⊎_elim
        (λ less. starts-high first key n x e less)
        (λ le. let low = window.from n x from before e le in absurd (omega (arith, low, above)))
        (cases_lt key x)

pub window-page : (first : ℕ → Option ℕ) (lo hi key estimate error : ℕ) (page : Option ℕ) → IsWindow first lo hi key estimate error →
    IsPageOf first lo (min (estimate + error + 1) hi) key page → IsPageOf first lo hi key page
window-page first lo hi key estimate error None window none = λ n from before. ⊎_elim
    (λ within. none n from (omega (arith, before)))
    (λ above. above-window first lo hi key estimate error n window from before (omega (arith, above)))
    (cases_lt n (estimate + error + 1))
window-page first lo hi key estimate error (Some page) window is = record {
  from = is.from;
  before = omega (arith, is.before);
  here = is.here;
  later = λ n after before. ⊎_elim
      (λ within. is.later n after (omega (arith, before)))
      (λ above. above-window first lo hi key estimate error n window (omega (arith, is.from, after)) before (omega (arith, above)))
      (cases_lt n (estimate + error + 1));
}

-- the first page with rows from one on, if there is one
record IsNext (first : ℕ → Option ℕ) (lo hi : ℕ) : Type 0 where
  page : ℕ
  key : ℕ
  from : lo ≤ page
  before : page < hi
  here : first page ≡ Some key
  voids : AreVoid first lo page

next-full : (first : ℕ → Option ℕ) (lo n : ℕ) → AreVoid first lo (lo + n) ⊎ IsNext first lo (lo + n)
next-full first lo zero = inl (λ m from before. absurd (omega (arith, from, before)))
next-full first lo (suc n) = ⊎_elim
    (λ voids. by_first voids (first (lo + n)) refl)
    (λ next. inr (record { page = next.page; key = next.key; from = next.from; before = omega (arith, next.before); here = next.here; voids = next.voids }))
    (next-full first lo n)
  where
    by_first : AreVoid first lo (lo + n) → (o : Option ℕ) → first (lo + n) ≡ o → AreVoid first lo (lo + suc n) ⊎ IsNext first lo (lo + suc n)
    by_first voids None e = inl (λ m from before. ⊎_elim
        (λ less. voids m from less)
        (λ here. let same : m ≡ lo + n = omega (arith, before) in ap first same ∙ e)
        (cases_lt m (lo + n)))
    by_first voids (Some x) e = inr (record { page = lo + n; key = x; from = omega arith; before = omega arith; here = e; voids = voids })

-- from a page on, above which no page starts by the key, only so many pages are in the window
in-window : (first : ℕ → Option ℕ) (lo from hi key estimate error : ℕ) → IsWindow first lo hi key estimate error → lo ≤ from → from ≤ hi →
    ((n : ℕ) → from ≤ n → n < hi → starts_by first key n ≡ false) → min (estimate + error + 1) hi - from ≤ 2 * error + 1 + voids_in first lo hi
in-window first lo from hi key estimate error window le fits none =
    let split : from + (hi - from) ≡ hi = omega (arith, fits) in
    ⊎_elim
    (λ voids.
    let all = voids-end first lo from hi le fits (λ n f b. voids n f (omega (arith, split, b))) in
    omega (arith, all))
    (λ next.
    let b : next.page < hi = omega (arith, next.before, split) in
    let some = voids-split first lo next.page hi (omega (arith, le, next.from)) (omega (arith, b)) in
    let voids = voids-end first lo from next.page le next.from next.voids in
    let above = above_key next.page next.key next.here (none next.page next.from b) in
    let to = window.to next.page next.key (omega (arith, le, next.from)) b next.here above in
    omega (arith, some, voids, to, next.from))
    (next-full first from (hi - from))
  where
    above_key : (n x : ℕ) → first n ≡ Some x → starts_by first key n ≡ false → key < x
    above_key n x e starts = ⊎_elim
        (λ less. less)
        (λ at_most. absurd (true≢false (sym (starts-low first key n x e at_most) ∙ starts)))
        (cases_lt key x)

pub window-looks : (first : ℕ → Option ℕ) (lo hi key estimate error : ℕ) (page : Option ℕ) → IsWindow first lo hi key estimate error → lo ≤ hi → IsPageOf first lo hi key page →
    looked_at lo (min (estimate + error + 1) hi) page ≤ 2 * error + 2 + voids_in first lo hi
window-looks first lo hi key estimate error None window le none =
    let few = in-window first lo lo hi key estimate error window (omega arith) le none in omega (arith, few)
window-looks first lo hi key estimate error (Some page) window le is =
    let few = in-window first lo (page + 1) hi key estimate error window (omega (arith, is.from)) (omega (arith, is.before)) (λ n from before. is.later n (omega (arith, from)) before) in
    omega (arith, few)

-- there is one such page only
pub one-page : (first : ℕ → Option ℕ) (lo hi key : ℕ) (page other : Option ℕ) → IsPageOf first lo hi key page → IsPageOf first lo hi key other → page ≡ other
one-page first lo hi key None None a b = refl
one-page first lo hi key None (Some n) a b = absurd (false≢true (sym (a n b.from b.before) ∙ b.here))
one-page first lo hi key (Some m) None a b = absurd (false≢true (sym (b m a.from a.before) ∙ a.here))
one-page first lo hi key (Some m) (Some n) a b = ap (λ (k : ℕ). Some k) (⊎_elim
    (λ less. absurd (false≢true (sym (a.later n less b.before) ∙ b.here)))
    (λ ge. ⊎_elim
    (λ less. absurd (false≢true (sym (b.later m less a.before) ∙ a.here)))
    (λ le. omega arith)
    (cases_lt n m))
    (cases_lt m n))

-- the page among all of them is the one in the window
pub window-back : (first : ℕ → Option ℕ) (lo hi key estimate error : ℕ) (page : Option ℕ) → IsWindow first lo hi key estimate error →
    IsPageOf first lo hi key page → IsPageOf first lo (min (estimate + error + 1) hi) key page
window-back first lo hi key estimate error None window none = λ n from before. none n from (omega (arith, before))
window-back first lo hi key estimate error (Some page) window is = record {
  from = is.from;
  before = ⊎_elim
      (λ within. omega (arith, within, is.before))
      (λ above. absurd (false≢true (sym (above-window first lo hi key estimate error page window is.from is.before (omega (arith, above))) ∙ is.here)))
      (cases_lt page (estimate + error + 1));
  here = is.here;
  later = λ n after before. is.later n after (omega (arith, before));
}
