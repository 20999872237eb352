-- The fields that are written need no quotes: each byte is a digit, a letter or a dash.
use Rattle.std.proofs.Common.{ℕ, ◌/◌, ◌%◌, ◌<◌, ◌≤◌, ◌^◌, suc, ℤ, pos, negsuc, List, [], ◌∷◌, ◌++◌, map, arith, decimal}
use Rattle.std.specs.Prelude.{FitsSigned}
use Rattle.std.specs.Int.{w64}
use Rattle.std.specs.List.{AllByRecursion}
use Rattle.std.specs.Fmt.{signed_decimal}
use Rattle.std.specs.Str.Parse.{AllDigits}
use Rattle.std.proofs.lemmas.Bool.Decides.{nat_tests}
use Rattle.std.proofs.lemmas.Fmt.{decimal_is_IsNumeral}
use Rattle.std.proofs.lemmas.Str.Parse.{digit_from_value}
use Rattle.fl_words.specs.Reply.{hex_digit, hex_text}
use Rattle.fl_csv.specs.Text.{Blob, Absent, Nothing, Bytes, Gone, blob_fields, bytes_field}

abbrev pub IsPlain : List ℕ → Type 0
IsPlain field = AllByRecursion (λ byte. 45 ≤ byte) field

abbrev pub ArePlain : List (List ℕ) → Type 0
ArePlain fields = AllByRecursion IsPlain fields

digits-plain : (ds : List ℕ) → AllDigits 10 ds → IsPlain ds
digits-plain [] h = tt
digits-plain (d ∷ ds) h = (omega (arith, (digit_from_value d h.0).0), digits-plain ds h.1)

pub decimal-plain : (n : ℕ) → n < 2 ^ 64 → IsPlain (decimal n)
decimal-plain n small = digits-plain (decimal n) (decimal_is_IsNumeral n small).0.1

-- a number of 64 bits with a sign
pub signed-plain : (z : ℤ) → FitsSigned w64 z → IsPlain (signed_decimal z)
signed-plain (pos n) h = decimal-plain n (omega (arith, h.sfits))
signed-plain (negsuc n) h = (omega arith, decimal-plain (suc n) (omega (arith, h.sfits)))

hex-digit-plain : (n : ℕ) → 45 ≤ hex_digit n
hex-digit-plain n = grind (arith, nat_tests)

hex-plain : (bytes : List ℕ) → IsPlain (hex_text bytes)
hex-plain [] = tt
hex-plain (byte ∷ bytes) = (hex-digit-plain (byte / 16), (hex-digit-plain (byte % 16), hex-plain bytes))

bytes-plain : (bytes : List ℕ) → IsPlain (bytes_field bytes)
bytes-plain [] = (omega arith, tt)
bytes-plain (byte ∷ bytes) = hex-plain (byte ∷ bytes)

pub values-plain : (values : List ℤ) (others : List (List ℕ)) → AllByRecursion (FitsSigned w64) values → ArePlain others
    → ArePlain (map signed_decimal values ++ others)
values-plain [] others h hs = hs
values-plain (value ∷ values) others h hs = (signed-plain value h.0, values-plain values others h.1 hs)

pub blob-plain : (blob : Blob) → ArePlain (blob_fields blob)
blob-plain Absent = tt
blob-plain Nothing = (tt, tt)
blob-plain (Bytes bytes) = (bytes-plain bytes, tt)
blob-plain Gone = ((omega arith, (omega arith, (omega arith, (omega arith, tt)))), tt)
