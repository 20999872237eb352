-- How the number of binary digits grows with a number.
use Rattle.std.proofs.Common.{ℕ, ◌≡◌, ◌<◌, ◌≤◌, ◌+◌, ◌-◌, ◌*◌, ◌^◌, arith, ap, ◌∙◌, ⊎_elim}
use Rattle.std.proofs.lemmas.Nat.{leading_length}
use Rattle.std.proofs.lemmas.Bool.{cases_lt}
use Rattle.std.proofs.Math.Nat.{pow-le-pow_right}
use Rattle.std.proofs.lemmas.Grind.{pow_more}
use Rattle.fl_base.specs.Bits.{bits}
use Rattle.fl_base.specs.BitsGrow.{HasBits}

pub has-bits : (n : ℕ) → n < 2 ^ 64 → HasBits n
has-bits n lt =
    let found = leading_length 64 n lt in
    let is : bits n ≡ found.0 = omega (arith, found.1) in
    record { below = rw is found.2; above = rw is found.3 }

pub bits-le : (m n : ℕ) → m ≤ n → n < 2 ^ 64 → bits m ≤ bits n
bits-le m n le lt = ⊎_elim
    (λ less.
    let power : 2 ^ (bits n + 1) ≤ 2 ^ bits m = pow-le-pow_right (omega arith) (omega arith) in
    let twice : 2 ^ (bits n + 1) ≡ 2 ^ bits n * 2 = pow_more 2 (bits n) in
    absurd (omega (arith, power, twice, (has-bits n lt).below, (has-bits m (omega arith)).above)))
    (λ le. le)
    (cases_lt (bits n) (bits m))

pub has-digit : (n : ℕ) → 0 < n → n < 2 ^ 64 → 0 < bits n
has-digit n some lt = ⊎_elim
    (λ one. one)
    (λ none.
    let z : bits n ≡ 0 = omega arith in
    let one : 2 ^ bits n ≡ 1 = ap (λ k. 2 ^ k) z in
    absurd (omega (arith, one, (has-bits n lt).below)))
    (cases_lt 0 (bits n))

-- a number that is at most half of another that isn't 0 has fewer digits
pub bits-half : (m n : ℕ) → 2 * m ≤ n → 0 < n → n < 2 ^ 64 → bits m + 1 ≤ bits n
bits-half m n le some lt = ⊎_elim
    (λ less. omega arith)
    (λ not_less.
    let top : 2 ^ bits n ≤ 2 ^ bits m = pow-le-pow_right (omega arith) not_less in
    let digit : 0 < bits n = has-digit n some lt in
    let even : 2 ^ bits n ≡ 2 ^ (bits n - 1) * 2 = ap (λ k. 2 ^ k) (omega arith) ∙ pow_more 2 (bits n - 1) in
    absurd (omega (arith, top, even, (has-bits n lt).below, (has-bits m (omega arith)).above)))
    (cases_lt (bits m) (bits n))

-- a number that is at most one more than twice another has one digit more at most
pub bits-twice : (m n : ℕ) → n ≤ 2 * m + 1 → m < 2 ^ 64 → n < 2 ^ 64 → bits n ≤ bits m + 1
bits-twice m n le small lt = ⊎_elim
    (λ more.
    let power : 2 ^ (bits m + 1 + 1) ≤ 2 ^ bits n = pow-le-pow_right (omega arith) (omega arith) in
    let twice : 2 ^ (bits m + 1 + 1) ≡ 2 ^ (bits m + 1) * 2 = pow_more 2 (bits m + 1) in
    let once : 2 ^ (bits m + 1) ≡ 2 ^ bits m * 2 = pow_more 2 (bits m) in
    absurd (omega (arith, power, twice, once, (has-bits m small).below, (has-bits n lt).above)))
    (λ few. few)
    (cases_lt (bits m + 1) (bits n))

pub bits-one : (n : ℕ) → n ≡ 0 → bits (n + 1) ≡ 1
unfolding lib.Count.count_leading_zeros
bits-one n none = ap (λ k. bits (k + 1)) none
