-- Numbers: std's `parse` reads them as the grammar does, and what is written of one is read as that number.
use Rattle.std.proofs.Common.{◌≡◌, ◌≢◌, ℕ, ℤ, pos, negsuc, ◌<◌, ◌^◌, Bool, true, false, nat_le, nat_lt, eqb, Option, Result, Ok, Err, List, [], ◌∷◌, length, get_or, refl, sym, ◌∙◌, ap, arith}
use Rattle.std.specs.Prelude.{MatchOption}
use Rattle.std.specs.List.{list_all}
use Rattle.std.specs.Fmt.{signed_decimal}
use Rattle.std.specs.Str.{IsUtf8}
use Rattle.std.specs.Str.Parse.{ParsesUnsigned}
use Rattle.std.specs.Result.{result_ok}
use Rattle.std.specs.List.{starts_with}
use Rattle.std.specs.Int.{IsInRange}
use Rattle.std.proofs.lemmas.Bool.{and_parts, eqb-true, eq-eqb}
use Rattle.std.proofs.lemmas.Bool.Decides.{nat_tests}
use Rattle.std.proofs.lemmas.Fmt.{IsAscii-from_digits}
use Rattle.std.proofs.lemmas.Str.{IsUtf8-from_ascii}
use Rattle.std.proofs.lemmas.Str.Parse.{parse_plain}
use Rattle.fl_words.specs.Grammar.{Number, is_digit, value_of, number, signed, greatest_number}
use Rattle.fl_script.proofs.Numbers.{AreDigits, tells, own, digits-number, decimal-signed}
use Rattle.fl_csv.specs.Laws.{IsValue}

-- ---- read

other-number : (word : List ℕ) → (AreDigits word × (0 < length word) × (value_of word < 2 ^ 64) → ⊥) → number word ≡ Err Number
other-number word never = by (list_all is_digit word) refl (nat_lt 0 (length word)) refl (nat_le (value_of word) greatest_number) refl
  where
    by : (d : Bool) → list_all is_digit word ≡ d → (s : Bool) → nat_lt 0 (length word) ≡ s → (f : Bool) → nat_le (value_of word) greatest_number ≡ f → number word ≡ Err Number
    by true d true s true f = absurd (never (d, grind (arith, nat_tests, s), grind (arith, nat_tests, f)))
    by true d true s false f = rw (d, s, f) (rw (zero-le (value_of word)) refl)
      where
        zero-le : (n : ℕ) → nat_le 0 n ≡ true
        zero-le n = grind (arith, nat_tests)
    by true d false s f g = rw s refl
    by false d true s f g = rw (d, s) refl
    by false d false s f g = rw s refl

pub no-text : (word : List ℕ) → (IsUtf8 word → ⊥) → number word ≡ Err Number
no-text word never = other-number word (λ h. never (IsUtf8-from_ascii word (IsAscii-from_digits word (own.to word h.0))))

pub parsed : {E : Type 0} (word : List ℕ) (result : Result ℕ E) → ParsesUnsigned 64 10 word result → get_or word 0 0 ≢ 43
    → MatchOption (result_ok result) (number word ≡ Err Number) (λ value. number word ≡ Ok value)
parsed {E = E} word (Ok value) h plain =
    let p = parse_plain own {E = E} 64 word (Ok value) h plain in
    let small : value_of word < 2 ^ 64 = p.0.2 in
    digits-number word (value_of word) (record { some = p.0.1; digits = p.0.0; value = refl }) (omega (arith, small)) ∙ ap Ok (sym p.1)
parsed {E = E} word (Err e) h plain = other-number word (parse_plain own {E = E} 64 word (Err e) h plain)

pub parsed-text : {E : Type 0} (word text : List ℕ) (result : Result ℕ E) (number_read : Option ℕ) → text ≡ word → ParsesUnsigned 64 10 text result → get_or word 0 0 ≢ 43
    → number_read ≡ result_ok result → MatchOption number_read (number word ≡ Err Number) (λ value. number word ≡ Ok value)
parsed-text word text result number_read same h plain is = rw is (parsed word result (rw same at h) plain)

pub plus-number : (word : List ℕ) → starts_with eqb word (43 ∷ []) ≡ true → number word ≡ Err Number
plus-number [] h = refl
plus-number (byte ∷ bytes) h = other-number (byte ∷ bytes) (λ k. no (tells.parts byte bytes k.0).0 (and_parts (eqb 43 byte) true h).0)
  where
    no : IsInRange 48 57 byte → eqb 43 byte ≡ true → ⊥
    no r e = omega (arith, r, eqb-true 43 byte e)

pub no-plus : (word : List ℕ) → starts_with eqb word (43 ∷ []) ≡ false → get_or word 0 0 ≢ 43
no-plus [] h = λ e. omega (arith, e)
no-plus (byte ∷ bytes) h = λ e. no (eq-eqb 43 byte (sym e))
  where
    no : eqb 43 byte ≡ true → ⊥
    no e = cc (rw e at h)

-- ---- written

pub signed-written : (z : ℤ) → IsValue z → signed (signed_decimal z) ≡ Ok z
signed-written (pos n) h = decimal-signed (pos n) (omega (arith, h))
signed-written (negsuc n) h = decimal-signed (negsuc n) (omega (arith, h))
