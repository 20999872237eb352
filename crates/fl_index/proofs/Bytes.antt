-- The bitmaps in the bytes of a page.
use Rattle.std.proofs.Common.{◌≡◌, ℕ, zero, suc, ◌+◌, ◌-◌, ◌/◌, ◌%◌, ◌^◌, ◌≤◌, List, [], ◌∷◌, length, take, drop, slice_range, sym, ap, ◌∙◌, arith}
use Rattle.std.proofs.lemmas.List.{take_all, append-nil}
use Rattle.byteorder.specs.Endian.{little_number}
use Rattle.byteorder.specs.Numbers.{little_from-bytes}
use Rattle.std.specs.Int.{byte_at, bytes_low_first}
use Rattle.fl_model.proofs.Lists.{take_none}
use Rattle.fl_model.specs.Row.{le, number_of}
use Rattle.fl_schema.proofs.Numbers.{number_read, little_number_is, length-le}

-- the number in a part of so many bytes
pub entry-read : (width at : ℕ) (page : List ℕ) → at + width ≤ length page → little_number width (slice_range page at (at + width)) ≡ number_of (take width (drop at page))
entry-read width at page room =
    number_read width at page room ∙ ap (λ (k : ℕ). number_of (take k (drop at page))) (let e : at + width - at ≡ width = omega arith in e)

-- the low bytes of a number are read as what they can hold of it
pub number_of-low : (width n : ℕ) → number_of (le width n) ≡ n % 256 ^ width
number_of-low width n =
    ap number_of (sym (take_all width (le width n) (let e = length-le width n in omega (arith, e))))
    ∙ sym (little_number_is width (le width n) (let e = length-le width n in omega (arith, e)))
    ∙ ap (little_number width) (sym (append-nil (le width n)))
    ∙ (little_from-bytes width 0 n [] ∙ ap (λ (k : ℕ). k % 256 ^ width) (one n))
  where
    one : (n : ℕ) → n / 256 ^ 0 ≡ n
    one n = omega arith

-- the first bytes of a number are its low ones
pub take-low : (width more i n : ℕ) → take width (bytes_low_first i (width + more) n) ≡ bytes_low_first i width n
take-low zero more i n = take_none (bytes_low_first i (0 + more) n)
take-low (suc width) more i n =
    let e : suc width + more ≡ suc (width + more) = omega arith in
    ap (λ (k : ℕ). take (suc width) (bytes_low_first i k n)) e ∙ ap (λ (xs : List ℕ). byte_at i n ∷ xs) (take-low width more (suc i) n)
