-- Which index page lists a data page.
use Rattle.std.proofs.Common.{◌≡◌, ℕ, zero, suc, ◌+◌, ◌<◌, ◌≤◌, inl, inr, Bool, true, false, cond, max, Option, Some, None, refl, sym, ◌∙◌, ap, subst, arith}
use Rattle.std.specs.Prelude.{option_map}
use Rattle.std.proofs.lemmas.Bool.{cases_lt, eqb-true, leb-true, ltb-true, and_parts}
use Rattle.fl_index.specs.Page.{page_first, page_entries}
use Rattle.fl_parts.specs.ByEntries.{Come, index_page, is_committed, end_before, is_good, lists, listing_among, told_at, entry}

-- what holds of a good index page
pub record IsGood (t : Come) (k : ℕ) : Type 0 where
  pub committed : is_committed (index_page t k) ≡ true
  pub entries : page_entries (index_page t k) ≡ t.per_page
  pub behind : end_before t k ≤ page_first (index_page t k)

pub good-is : (t : Come) (k : ℕ) → is_good t k ≡ true → IsGood t k
good-is t k h =
    let a = and_parts _ _ h in
    let b = and_parts _ _ a.1 in
    let c = and_parts _ _ b.0 in
    record { committed = a.0; entries = eqb-true _ _ c.1; behind = leb-true _ _ b.1 }

-- the ends rise
pub end-next : (t : Come) (k : ℕ) → end_before t k ≤ end_before t (suc k)
end-next t k = by_state (is_committed (index_page t k))
  where
    by_state : (b : Bool) → end_before t k ≤ cond b (max (end_before t k) (page_first (index_page t k) + page_entries (index_page t k))) (end_before t k)
    by_state true = omega arith
    by_state false = omega arith

pub ends-rise : (t : Come) (k m : ℕ) → k ≤ m → end_before t k ≤ end_before t m
ends-rise t k zero le = ap_le (let e : k ≡ 0 = omega (arith, le) in e)
  where
    ap_le : k ≡ 0 → end_before t k ≤ end_before t 0
    ap_le e = subst (λ n. end_before t n ≤ end_before t 0) (sym e) (omega arith)
ends-rise t k (suc m) le = elim (cases_lt k (suc m)) [
  | inl lt ↦ let h = ends-rise t k m (omega (arith, lt)) in omega (arith, h, end-next t m)
  | inr ge ↦ subst (λ n. end_before t n ≤ end_before t (suc m)) (let e : suc m ≡ k = omega (arith, le, ge) in e) (omega arith)
]

-- a good page lists data pages from the end before it up to its end
pub record Lists (t : Come) (number k : ℕ) : Type 0 where
  pub good : IsGood t k
  pub low : page_first (index_page t k) ≤ number
  pub high : number < page_first (index_page t k) + t.per_page

pub lists-is : (t : Come) (number k : ℕ) → lists t number k ≡ true → Lists t number k
lists-is t number k h =
    let a = and_parts _ _ h in
    let b = and_parts _ _ a.0 in
    record { good = good-is t k b.0; low = leb-true _ _ b.1; high = ltb-true _ _ a.1 }

-- its end is the next one
pub end-good : (t : Come) (k : ℕ) → IsGood t k → end_before t (suc k) ≡ page_first (index_page t k) + t.per_page
end-good t k g =
    ap (λ b. cond b (max (end_before t k) (page_first (index_page t k) + page_entries (index_page t k))) (end_before t k)) g.committed
    ∙ (let e : max (end_before t k) (page_first (index_page t k) + page_entries (index_page t k)) ≡ page_first (index_page t k) + t.per_page = omega (arith, g.behind, g.entries) in e)

not_listed : (t : Come) (number k : ℕ) → (Lists t number k → ⊥) → lists t number k ≡ false
not_listed t number k none = by_test (lists t number k) refl
  where
    by_test : (b : Bool) → lists t number k ≡ b → b ≡ false
    by_test true e = absurd (none (lists-is t number k e))
    by_test false e = refl

-- none of the first k lists a page from their end on
pub none-behind : (t : Come) (number k : ℕ) → end_before t k ≤ number → listing_among t number k ≡ None
none-behind t number zero h = refl
none-behind t number (suc k) h =
    ap (λ b. cond b (Some k) (listing_among t number k)) (not_listed t number k (λ l. omega (arith, end-good t k l.good, l.high, h)))
    ∙ none-behind t number k (omega (arith, end-next t k, h))

pub unlisted : (t : Come) (number : ℕ) → end_before t t.index_pages ≤ number → entry t number ≡ None
unlisted t number h = ap (option_map (told_at t number)) (none-behind t number t.index_pages h)

-- the pages behind do not list a page before their end
later : (t : Come) (number k m : ℕ) → suc k ≤ m → number < end_before t (suc k) → listing_among t number m ≡ listing_among t number (suc k)
later t number k zero le h = absurd (omega (arith, le))
later t number k (suc m) le h = elim (cases_lt k m) [
  | inl lt ↦ ap (λ b. cond b (Some m) (listing_among t number m)) (not_listed t number m (λ l. omega (arith, ends-rise t (suc k) m (omega (arith, lt)), l.good.behind, l.low, h)))
      ∙ later t number k m (omega (arith, lt)) h
  | inr ge ↦ ap (listing_among t number) (let e : suc m ≡ suc k = omega (arith, le, ge) in e)
]

-- so it is the k-th page, where it lists one that lies between the end before it and its own
pub entry-in : (t : Come) (number k : ℕ) → k < t.index_pages → end_before t k ≤ number → number < end_before t (suc k) →
    entry t number ≡ cond (lists t number k) (Some (told_at t number k)) None
entry-in t number k lt low high =
    ap (option_map (told_at t number)) (later t number k t.index_pages (omega (arith, lt)) high)
    ∙ (ap (λ (o : Option ℕ). option_map (told_at t number) (cond (lists t number k) (Some k) o)) (none-behind t number k low) ∙ by_test (lists t number k))
  where
    by_test : (b : Bool) → option_map (told_at t number) (cond b (Some k) None) ≡ cond b (Some (told_at t number k)) None
    by_test true = refl
    by_test false = refl
