-- A number that is written and read again.
use Rattle.std.proofs.Common.{◌≡◌, ℕ, ℤ, pos, negsuc, suc, ◌+◌, ◌-◌, ◌*◌, ◌<◌, ◌≤◌, ◌^◌, true, false, nat_le, nat_lt, eqb, Ok, List, [], ◌∷◌, length, refl, arith, decimal}
use Rattle.std.specs.List.{list_all, fold}
use Rattle.std.specs.Fmt.{signed_decimal}
use Rattle.std.proofs.lemmas.Bool.{and_parts, leb-true}
use Rattle.std.proofs.lemmas.Bool.Decides.{nat_tests}
use Rattle.std.proofs.lemmas.Fmt.{digits_decimal, digits_value-decimal, decimal_is_IsNumeral}
use Rattle.std.proofs.lemmas.Str.Parse.{IsDigitsTest, FoldsDigits, IsNumeralModel, numerals_by_fold}
use Rattle.fl_words.specs.Grammar.{is_digit, are_digits, value_of, number, signed, greatest_number}

abbrev value_from : ℕ → List ℕ → ℕ
value_from n word = fold (λ value digit. value * 10 + (digit - 48)) n word

abbrev pub AreDigits : List ℕ → Type 0
AreDigits word = list_all is_digit word ≡ true

pub tells : IsDigitsTest AreDigits
tells = record {
  empty = refl;
  parts = λ c cs e. let k = and_parts (is_digit c) (list_all is_digit cs) e in let m = and_parts (nat_le 48 c) (nat_le c 57) k.0 in ((leb-true 48 c m.0, leb-true c 57 m.1), k.1);
  more = λ c cs k e. let d : is_digit c ≡ true = grind (arith, nat_tests, k.0, k.1) in rw d e;
}

folds : FoldsDigits value_from
folds = record { empty = λ n. refl; more = λ n c cs k. refl }

pub own : IsNumeralModel AreDigits (value_from 0)
own = numerals_by_fold AreDigits tells value_from folds

-- the digits of a number
pub record AreDigitsOf (word : List ℕ) (n : ℕ) : Type 0 where
  pub some : 0 < length word
  pub digits : AreDigits word
  pub value : value_of word ≡ n

pub decimal-digits : (n : ℕ) → n < 2 ^ 64 → AreDigitsOf (decimal n) n
decimal-digits n small = record { some = (decimal_is_IsNumeral n small).0.0; digits = digits_decimal own n small; value = digits_value-decimal own n small }

are : (word : List ℕ) (n : ℕ) → AreDigitsOf word n → are_digits word ≡ true
are word n h =
    let some : nat_lt 0 (length word) ≡ true = grind (arith, nat_tests, h.some) in
    rw (some, h.digits) refl

pub digits-number : (word : List ℕ) (n : ℕ) → AreDigitsOf word n → n ≤ greatest_number → number word ≡ Ok n
digits-number word n h le =
    let low : nat_le 0 n ≡ true = grind (arith, nat_tests) in
    let high : nat_le n greatest_number ≡ true = grind (arith, nat_tests, le) in
    rw (are word n h, h.value, low, high) refl

pub decimal-number : (n : ℕ) → n ≤ greatest_number → number (decimal n) ≡ Ok n
decimal-number n le = digits-number (decimal n) n (decimal-digits n (omega (arith, le))) le

-- a number of 64 bits with a sign
abbrev pub IsSigned : ℤ → Type 0
IsSigned (pos n) = n ≤ 9223372036854775807
IsSigned (negsuc n) = n ≤ 9223372036854775807

positive : (word : List ℕ) (n : ℕ) → AreDigitsOf word n → n ≤ 9223372036854775807 → signed word ≡ Ok (pos n)
positive [] n h le = absurd (omega (arith, h.some))
positive (byte ∷ bytes) n h le =
    let digit = (tells.parts byte bytes h.digits).0 in
    let plain : eqb byte 45 ≡ false = grind (arith, nat_tests, digit.0) in
    let high : nat_le n 9223372036854775807 ≡ true = grind (arith, nat_tests, le) in
    rw (plain, are (byte ∷ bytes) n h, h.value, high) refl

negative : (word : List ℕ) (n : ℕ) → AreDigitsOf word (suc n) → n ≤ 9223372036854775807 → signed (45 ∷ word) ≡ Ok (negsuc n)
negative word n h le =
    let high : nat_le (suc n) 9223372036854775808 ≡ true = grind (arith, nat_tests, le) in
    rw (are word (suc n) h, h.value, high) refl

pub decimal-signed : (z : ℤ) → IsSigned z → signed (signed_decimal z) ≡ Ok z
decimal-signed (pos n) h = positive (decimal n) n (decimal-digits n (omega (arith, h))) h
decimal-signed (negsuc n) h = negative (decimal (suc n)) n (decimal-digits (suc n) (omega (arith, h))) h
