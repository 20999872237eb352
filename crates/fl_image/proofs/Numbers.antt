-- A number that is written is a word.
use Rattle.std.proofs.Common.{ℕ, ℤ, pos, negsuc, suc, ◌≤◌, List, [], ◌∷◌, arith, decimal}
use Rattle.std.specs.Fmt.{signed_decimal}
use Rattle.std.specs.Str.Parse.{AllDigits}
use Rattle.std.proofs.lemmas.Fmt.{decimal_is_IsNumeral}
use Rattle.std.proofs.lemmas.Str.Parse.{digit_from_value}
use Rattle.fl_words.specs.Grammar.{greatest_number}
use Rattle.fl_script.proofs.Numbers.{IsSigned}
use Rattle.fl_image.proofs.LineWords.{IsWord, IsVisible}

digits-visible : (ds : List ℕ) → AllDigits 10 ds → IsVisible ds
digits-visible [] h = tt
digits-visible (d ∷ ds) h = (omega (arith, (digit_from_value d h.0).0), digits-visible ds h.1)

pub decimal-word : (n : ℕ) → n ≤ greatest_number → IsWord (decimal n)
decimal-word n le =
    let k = decimal_is_IsNumeral n (omega (arith, le)) in
    record { some = k.0.0; visible = digits-visible (decimal n) k.0.1 }

pub signed-word : (z : ℤ) → IsSigned z → IsWord (signed_decimal z)
signed-word (pos n) h = decimal-word n (omega (arith, h))
signed-word (negsuc n) h = record { some = omega arith; visible = (omega arith, (decimal-word (suc n) (omega (arith, h))).visible) }
