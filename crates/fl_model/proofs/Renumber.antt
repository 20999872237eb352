-- The least number that is alike.
use Rattle.std.proofs.Common.{◌≡◌, ℕ, ◌+◌, ◌-◌, ◌*◌, ◌/◌, ◌%◌, ◌<◌, ◌≤◌, sym, ◌∙◌, ap, arith, ◌⊎◌, inl, inr}
use Rattle.std.proofs.Math.Nat.{mod-lt, mod-add-div', mod-eq_of_lt, add-mod_right, mul-le-mul_right, add-mul}
use Rattle.std.proofs.lemmas.Nat.{mod-mul-add}
use Rattle.std.proofs.lemmas.Bool.{cases_lt}
use Rattle.fl_model.specs.Mount.{least_alike}

-- one multiple more
more : (a m : ℕ) → (a + 1) * m ≡ a * m + m
more a m = add-mul a 1 m ∙ omega arith

-- the least number that is alike is the least one plus the rest of what lies between
pub least-alike : (m n least : ℕ) → 0 < m → least ≤ n → least_alike m n least ≡ least + (n - least) % m
least-alike m n least some le = ap (λ k. least + k) (by_order (cases_lt (n % m) (least % m)))
  where
    pn : n ≡ n / m * m + n % m
    pn = sym (omega (arith, mod-add-div' n m))

    pl : least ≡ least / m * m + least % m
    pl = sym (omega (arith, mod-add-div' least m))

    small : (k : ℕ) → k % m < m
    small k = mod-lt k some

    -- how many multiples lie between
    whole : (q d : ℕ) → d < m → n - least ≡ q * m + d → (n - least) % m ≡ d
    whole q d lt e = ap (λ k. k % m) e ∙ mod-mul-add q m d lt

    by_order : (n % m < least % m) ⊎ (least % m ≤ n % m) → (n % m + m - least % m) % m ≡ (n - least) % m
    by_order (inl lt) =
        let s = small (least) in
        let d : n % m + m - least % m < m = omega (arith, lt, s) in
        elim (cases_lt (least / m) (n / m)) [
          | inl up ↦
              let k : (n / m - least / m - 1 + 1) * m ≡ (n / m - least / m - 1) * m + m = more (n / m - least / m - 1) m in
              let q : n / m * m ≡ (n / m - least / m - 1) * m + m + least / m * m =
              let e : n / m ≡ (n / m - least / m - 1 + 1) + least / m = omega arith in ap (λ k. k * m) e ∙ (add-mul (n / m - least / m - 1 + 1) (least / m) m ∙ omega (arith, k)) in
              mod-eq_of_lt d ∙ sym (whole (n / m - least / m - 1) (n % m + m - least % m) d (omega (arith, pn, pl, q, lt, s)))
          | inr down ↦ let k : n / m * m ≤ least / m * m = mul-le-mul_right m down in absurd (omega (arith, pn, pl, k, lt, le))
        ]
    by_order (inr ge) =
        let s = small n in
        let d : n % m - least % m < m = omega (arith, s) in
        let wraps : n % m + m - least % m ≡ n % m - least % m + m = omega (arith, ge) in
        let first : (n % m + m - least % m) % m ≡ n % m - least % m = ap (λ k. k % m) wraps ∙ (add-mod_right (n % m - least % m) m ∙ mod-eq_of_lt d) in
        elim (cases_lt (n / m) (least / m)) [
          | inl down ↦
              let k : (n / m + 1) * m ≤ least / m * m = mul-le-mul_right m (let u : n / m + 1 ≤ least / m = omega (arith, down) in u) in
              let x : (n / m + 1) * m ≡ n / m * m + m = more (n / m) m in
              absurd (omega (arith, pn, pl, k, x, s, le))
          | inr up ↦
              let q : n / m * m ≡ (n / m - least / m) * m + least / m * m =
              let e : n / m ≡ (n / m - least / m) + least / m = omega (arith, up) in ap (λ k. k * m) e ∙ add-mul (n / m - least / m) (least / m) m in
              first ∙ sym (whole (n / m - least / m) (n % m - least % m) d (omega (arith, pn, pl, q, ge)))
        ]
