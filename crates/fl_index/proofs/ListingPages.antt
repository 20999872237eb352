-- The index page that lists a data page.
use Rattle.std.proofs.Common.{◌≡◌, ℕ, zero, suc, ◌+◌, ◌-◌, ◌<◌, ◌≤◌, Bool, true, false, cond, Option, Some, None, inl, inr, refl, sym, ◌∙◌, ap, arith}
use Rattle.std.proofs.lemmas.Bool.{cases_lt}
use Rattle.std.proofs.lemmas.Option.{none-some, same_Some}
use Rattle.fl_index.specs.Memory.{lists, listing_from}

module _ (most : ℕ) (first : ℕ → Option ℕ) (number : ℕ) where
  not_none : (x : ℕ) → ◌≡◌ {A = Option ℕ} (Some x) None → ⊥
  not_none x e = cc

  -- pages that don't list it are passed
  pub listing-skip : (n k from : ℕ) → listing_from most first number from n ≡ None → listing_from most first number from (n + k) ≡ listing_from most first number (from + n) k
  listing-skip zero k from h =
      ap (listing_from most first number from) (let e : 0 + k ≡ k = omega arith in e) ∙ ap (λ m. listing_from most first number m k) (let e : from ≡ from + 0 = omega arith in e)
  listing-skip (suc n) k from h =
      ap (listing_from most first number from) (let e : suc n + k ≡ suc (n + k) = omega arith in e) ∙ by_test (lists most number (first from)) h (λ g. listing-skip n k (from + 1) g)
    where
      by_test : (b : Bool) → cond b (Some from) (listing_from most first number (from + 1) n) ≡ None →
          (listing_from most first number (from + 1) n ≡ None → listing_from most first number (from + 1) (n + k) ≡ listing_from most first number (from + 1 + n) k) →
          cond b (Some from) (listing_from most first number (from + 1) (n + k)) ≡ listing_from most first number (from + suc n) k
      by_test true h go = absurd (not_none from h)
      by_test false h go = go h ∙ ap (λ m. listing_from most first number m k) (let e : from + 1 + n ≡ from + suc n = omega arith in e)

  pub listing-found : (n m from page : ℕ) → listing_from most first number from n ≡ None → page ≡ from + n → n < m → lists most number (first page) ≡ true → listing_from most first number from m ≡ Some page
  listing-found n m from page h at lt e =
      let k = m - n - 1 in
      ap (listing_from most first number from) (let s : m ≡ n + suc k = omega arith in s)
      ∙ (listing-skip n (suc k) from h
      ∙ (ap (λ p. cond (lists most number (first p)) (Some p) (listing_from most first number (p + 1) k)) (sym at)
      ∙ ap (λ b. cond b (Some page) (listing_from most first number (page + 1) k)) e))

  pub listing-none : (n m from page : ℕ) → listing_from most first number from n ≡ None → page ≡ from + n → m ≡ suc n → lists most number (first page) ≡ false → listing_from most first number from m ≡ None
  listing-none n m from page h at more e =
      ap (listing_from most first number from) (let s : m ≡ n + suc 0 = omega (arith, more) in s)
      ∙ (listing-skip n (suc 0) from h
      ∙ (ap (λ p. cond (lists most number (first p)) (Some p) None) (sym at) ∙ ap (λ b. cond b (Some page) None) e))

  -- where it is, and what stands before it
  pub record IsListing (from n page : ℕ) : Type 0 where
    pub low : from ≤ page
    pub high : page < from + n
    pub here : lists most number (first page) ≡ true
    pub before : (k : ℕ) → from ≤ k → k < page → lists most number (first k) ≡ false

  pub listing-is : (n from page : ℕ) → listing_from most first number from n ≡ Some page → IsListing from n page
  listing-is zero from page h = absurd (none-some page h)
  listing-is (suc n) from page h = by_test (lists most number (first from)) refl h (λ g. listing-is n (from + 1) page g)
    where
      by_test : (b : Bool) → lists most number (first from) ≡ b → cond b (Some from) (listing_from most first number (from + 1) n) ≡ Some page →
          (listing_from most first number (from + 1) n ≡ Some page → IsListing (from + 1) n page) → IsListing from (suc n) page
      by_test true t h go =
          let e = same_Some from page h in
          record { low = omega (arith, e); high = omega (arith, e); here = ap (λ p. lists most number (first p)) (sym e) ∙ t; before = λ k low high. absurd (omega (arith, e, low, high)) }
      by_test false t h go =
          let r = go h in
          record {
            low = omega (arith, r.low);
            high = omega (arith, r.high);
            here = r.here;
            before = λ k low high. first_or k low (λ up. r.before k up high);
          }
        where
          first_or : (k : ℕ) → from ≤ k → (from + 1 ≤ k → lists most number (first k) ≡ false) → lists most number (first k) ≡ false
          first_or k low later = elim (cases_lt from k) [ inl lt ↦ later (omega (arith, lt)) | inr ge ↦ let e : from ≡ k = omega (arith, low, ge) in ap (λ p. lists most number (first p)) (sym e) ∙ t ]

  pub listing-no : (n from k : ℕ) → listing_from most first number from n ≡ None → from ≤ k → k < from + n → lists most number (first k) ≡ false
  listing-no zero from k h low high = absurd (omega arith)
  listing-no (suc n) from k h low high = by_test (lists most number (first from)) refl h (λ g up. listing-no n (from + 1) k g up (omega (arith, high)))
    where
      by_test : (b : Bool) → lists most number (first from) ≡ b → cond b (Some from) (listing_from most first number (from + 1) n) ≡ None →
          (listing_from most first number (from + 1) n ≡ None → from + 1 ≤ k → lists most number (first k) ≡ false) → lists most number (first k) ≡ false
      by_test true t h go = absurd (not_none from h)
      by_test false t h go = elim (cases_lt from k) [ inl lt ↦ go h (omega (arith, lt)) | inr ge ↦ let e : from ≡ k = omega (arith, low, ge) in ap (λ p. lists most number (first p)) (sym e) ∙ t ]
