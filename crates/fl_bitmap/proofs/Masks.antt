-- The bits from one to another, as numbers.
use Rattle.std.proofs.Common.{◌≡◌, ℕ, zero, suc, ◌+◌, ◌-◌, ◌*◌, ◌/◌, ◌%◌, ◌^◌, ◌<◌, ◌≤◌, bit_and, arith, zero-add, mul_comm, sym, ◌∙◌, ap}
use Rattle.std.proofs.Math.Nat.{div-eq_of_lt-le, mod-eq_of_lt}
use Rattle.std.proofs.Math.Pow.{pow_mono}
use Rattle.std.proofs.lemmas.Nat.{pow-add}
use Rattle.std.proofs.lemmas.Nat.Bits.{bit_at_mask_inside, bit_at_and, bit_at-pow_same, bit_at-zero}
use Rattle.std.specs.Int.{bit_at, IsBitSet}
use Rattle.fl_model.specs.Limits.{bits_from}

pub bits_from-add : (low n : ℕ) → bits_from low n + 2 ^ low ≡ 2 ^ (low + n)
bits_from-add low zero = let same : low ≡ low + 0 = omega arith in zero-add (2 ^ low) ∙ ap (λ k. 2 ^ k) same
bits_from-add low (suc n) =
    let rest : bits_from (low + 1) n + 2 ^ (low + 1) ≡ 2 ^ (low + 1 + n) = bits_from-add (low + 1) n in
    let twice : 2 ^ (low + 1) ≡ 2 ^ low + 2 ^ low = grind (arith, pow-add) in
    let next : low + 1 + n ≡ low + suc n = omega arith in
    let same : 2 ^ (low + 1 + n) ≡ 2 ^ (low + suc n) = ap (λ k. 2 ^ k) next in
    omega (arith, rest, twice, same)

pub bits_from-is : (low n : ℕ) → bits_from low n ≡ 2 ^ (low + n) - 2 ^ low
bits_from-is low n = omega (arith, bits_from-add low n)

-- all ones, but for the low a of them
pub ones-div : (a b : ℕ) → (2 ^ (a + b) - 1) / 2 ^ a ≡ 2 ^ b - 1
ones-div a b =
    let product : 2 ^ (a + b) ≡ 2 ^ a * 2 ^ b = pow-add 2 a b in
    let some : 1 ≤ 2 ^ a = pow_mono {i = 0} {j = a} (omega arith) in
    let one : 1 ≤ 2 ^ b = pow_mono {i = 0} {j = b} (omega arith) in
    let below : (2 ^ b - 1) * 2 ^ a ≤ 2 ^ (a + b) - 1 = grind (arith, product, some, one) in
    let above : 2 ^ (a + b) - 1 < (2 ^ b - 1 + 1) * 2 ^ a = grind (arith, product, some, one) in
    div-eq_of_lt-le (2 ^ a) below above

times-one-less : (a b : ℕ) → (a - 1) * b ≡ a * b - b
times-one-less zero b = grind arith
times-one-less (suc a) b = grind arith

-- the ones from the place low on, d + 1 of them
pub shifted : (low high : ℕ) → low ≤ high → high < 64 →
    18446744073709551615 / 2 ^ (63 - (high - low)) * 2 ^ low % 18446744073709551616 ≡ bits_from low (high + 1 - low)
shifted low high ordered few =
    let n = high + 1 - low in
    let a = 63 - (high - low) in
    let width : 64 ≡ a + n = omega arith in
    let ones : 18446744073709551615 / 2 ^ a ≡ 2 ^ n - 1 = ap (λ k. (2 ^ k - 1) / 2 ^ a) width ∙ ones-div a n in
    let product : 2 ^ (low + n) ≡ 2 ^ low * 2 ^ n = pow-add 2 low n in
    let is : (2 ^ n - 1) * 2 ^ low ≡ bits_from low n =
    times-one-less (2 ^ n) (2 ^ low) ∙ ap (λ k. k - 2 ^ low) (mul_comm (2 ^ n) (2 ^ low) ∙ sym product) ∙ sym (bits_from-is low n) in
    let top : 2 ^ (low + n) ≤ 2 ^ 64 = pow_mono {i = low + n} {j = 64} (omega arith) in
    let some : 1 ≤ 2 ^ low = pow_mono {i = 0} {j = low} (omega arith) in
    let fits : bits_from low n < 18446744073709551616 = omega (arith, bits_from-add low n, top, some) in
    ap (λ k. k * 2 ^ low % 18446744073709551616) ones ∙ ap (λ k. k % 18446744073709551616) is ∙ mod-eq_of_lt fits

-- a number has a bit where its digit is 1
pub set-from : (n k : ℕ) → bit_at n k ≡ 1 → IsBitSet n k
set-from n k one none =
    let both : bit_at (bit_and n (2 ^ k)) k ≡ 1 = bit_at_and n (2 ^ k) k ∙ omega (arith, one, bit_at-pow_same k) in
    let zero_digit : bit_at (bit_and n (2 ^ k)) k ≡ 0 = ap (λ m. bit_at m k) none ∙ bit_at-zero k in
    omega (arith, both, zero_digit)

pub bits_from-at : (low n k : ℕ) → low ≤ k → k < low + n → bit_at (bits_from low n) k ≡ 1
bits_from-at low n k from below = ap (λ m. bit_at m k) (bits_from-is low n) ∙ bit_at_mask_inside low (low + n) k from below
