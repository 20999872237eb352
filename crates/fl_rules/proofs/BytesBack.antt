-- What was read from bytes is written as the same bytes.
use Rattle.std.proofs.Common.{◌≡◌, ℕ, zero, suc, ◌+◌, ◌*◌, ◌/◌, ◌%◌, ◌^◌, ◌<◌, List, [], ◌∷◌, length, get_or, refl, sym, ap, ◌∙◌, arith}
use Rattle.std.proofs.Math.Nat.{div-one, pow-suc}
use Rattle.std.proofs.lemmas.Nat.{div-mul-add, mod-mul-add}
use Rattle.std.specs.Int.{byte_at, bytes_low_first}
use Rattle.fl_model.specs.Row.{le, number_of}

abbrev pub AreBytes : List ℕ → Type 0
AreBytes bytes = (k : ℕ) → get_or bytes k 0 < 256

at-power : (k x : ℕ) → byte_at k x ≡ x / 256 ^ k % 256
at-power zero x = ap (λ (y : ℕ). y % 256) (sym (div-one x))
at-power (suc k) x = refl

-- one digit of a number
digit : (low p b high x : ℕ) → low < p → b < 256 → x ≡ (high * 256 + b) * p + low → x / p % 256 ≡ b
digit low p b high x below small is =
    ap (λ m. m / p % 256) is ∙ ap (λ m. m % 256) (div-mul-add (high * 256 + b) p low below) ∙ mod-mul-add high 256 b small

-- the next digits
next-low : (low p b : ℕ) → low < p → b < 256 → b * p + low < p * 256
next-low low p b below small = grind (arith, below, small)

regroup : (n p b low x : ℕ) → x ≡ (b + 256 * n) * p + low → x ≡ n * (p * 256) + (b * p + low)
regroup n p b low x is = grind (arith, is)

digits : (i low x : ℕ) (bytes : List ℕ) → AreBytes bytes → low < 256 ^ i → x ≡ number_of bytes * 256 ^ i + low → bytes_low_first i (length bytes) x ≡ bytes
digits i low x [] each below is = refl
digits i low x (b ∷ bytes) each below is =
    let p = 256 ^ i in
    let n = number_of bytes in
    let here : byte_at i x ≡ b = at-power i x ∙ digit low (256 ^ i) b (number_of bytes) x below (each 0) (is ∙ grind arith) in
    let power : 256 ^ suc i ≡ 256 ^ i * 256 = pow-suc 256 i in
    let there : bytes_low_first (suc i) (length bytes) x ≡ bytes =
    digits (suc i) (b * 256 ^ i + low) x bytes (λ k. each (suc k)) (rw power (next-low low (256 ^ i) b below (each 0))) (rw power (regroup (number_of bytes) (256 ^ i) b low x is)) in
    ap (λ (y : ℕ). y ∷ bytes_low_first (suc i) (length bytes) x) here ∙ ap (λ (l : List ℕ). b ∷ l) there

pub le-number_of : (bytes : List ℕ) → AreBytes bytes → le (length bytes) (number_of bytes) ≡ bytes
le-number_of bytes each = digits 0 0 (number_of bytes) bytes each (omega arith) (omega arith)

pub le-number_as : (count : ℕ) (bytes : List ℕ) → length bytes ≡ count → AreBytes bytes → le count (number_of bytes) ≡ bytes
le-number_as count bytes size each = ap (λ (k : ℕ). le k (number_of bytes)) (sym size) ∙ le-number_of bytes each

-- a number is below the power of its bytes
pub number-below : (bytes : List ℕ) → AreBytes bytes → number_of bytes < 256 ^ length bytes
number-below [] each = omega arith
number-below (b ∷ bytes) each =
    let rest = number-below bytes (λ k. each (suc k)) in
    let byte = each 0 in
    rw (pow-suc 256 (length bytes)) (omega (arith, rest, byte))
