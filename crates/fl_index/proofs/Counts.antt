-- How many of consecutive numbers pass a test.
use Rattle.std.proofs.Common.{◌≡◌, ℕ, zero, suc, ◌+◌, ◌<◌, ◌≤◌, Bool, true, false, cond, refl, ◌∙◌, ap, arith}
use Rattle.std.proofs.lemmas.List.Sums.{sum_by-cons}
use Rattle.std.specs.List.{range_with_len, count_by}
use Rattle.fl_base.proofs.Tests.{one_fewer}

pub count-cons : (p : ℕ → Bool) (n from : ℕ) → count_by p (range_with_len from (suc n)) ≡ cond (p from) 1 0 + count_by p (range_with_len (from + 1) n)
count-cons p n from = sum_by-cons (λ x. cond (p x) 1 0) from (range_with_len (from + 1) n)

pub count-split : (p : ℕ → Bool) (k n from : ℕ) → count_by p (range_with_len from (k + n)) ≡ count_by p (range_with_len from k) + count_by p (range_with_len (from + k) n)
count-split p zero n from =
    let e : 0 + n ≡ n = omega arith in
    let s : from ≡ from + 0 = omega arith in
    ap (λ m. count_by p (range_with_len from m)) e ∙ (ap (λ a. count_by p (range_with_len a n)) s ∙ omega arith)
count-split p (suc k) n from =
    let e : suc k + n ≡ suc (k + n) = omega arith in
    let s : from + 1 + k ≡ from + suc k = omega arith in
    let more = ap (λ m. count_by p (range_with_len from m)) e in
    let others = count-split p k n (from + 1) in
    let moved = ap (λ a. count_by p (range_with_len a n)) s in
    omega (arith, more, count-cons p (k + n) from, count-cons p k from, others, moved)

pub count-none : (p : ℕ → Bool) (n from : ℕ) → ((k : ℕ) → from ≤ k → k < from + n → p k ≡ false) → count_by p (range_with_len from n) ≡ 0
count-none p zero from h = refl
count-none p (suc n) from h =
    let here : cond (p from) 1 0 ≡ 0 = ap (λ b. cond {A = ℕ} b 1 0) (h from (omega arith) (omega arith)) in
    let others = count-none p n (from + 1) (λ k low high. h k (omega (arith, low)) (omega (arith, high))) in
    omega (arith, count-cons p n from, here, others)

pub count-fewer : (p q : ℕ → Bool) (n from : ℕ) → ((k : ℕ) → from ≤ k → k < from + n → p k ≡ true → q k ≡ true) → count_by p (range_with_len from n) ≤ count_by q (range_with_len from n)
count-fewer p q zero from h = omega arith
count-fewer p q (suc n) from h =
    let here = one_fewer (p from) (q from) (h from (omega arith) (omega arith)) in
    let others = count-fewer p q n (from + 1) (λ k low high. h k (omega (arith, low)) (omega (arith, high))) in
    omega (arith, count-cons p n from, count-cons q n from, here, others)
