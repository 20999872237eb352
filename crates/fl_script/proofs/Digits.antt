-- A number, read digit by digit.
use Rattle.std.proofs.Common.{◌≡◌, ℕ, ◌+◌, ◌-◌, ◌*◌, ◌<◌, ◌≤◌, true, ◌&&◌, nat_le, if◌then◌else◌, List, [], ◌∷◌, length, drop, get_or, Result, Ok, Err, ◌∙◌, arith}
use Rattle.std.specs.List.{list_all, fold}
use Rattle.std.proofs.lemmas.List.{at_drop_more, at_drop_all}
use Rattle.std.proofs.lemmas.Bool.Decides.{nat_tests}
use Rattle.fl_words.specs.Grammar.{LineFault, Number, is_digit, greatest_number}

-- the number that a value and the digits behind it are
abbrev pub number_from : ℕ → List ℕ → Result ℕ LineFault
number_from value digits =
    let whole = fold (λ v digit. v * 10 + (digit - 48)) value digits in
    if list_all is_digit digits && nat_le whole greatest_number then Ok whole else Err Number

more : (value : ℕ) (digits : List ℕ) → value ≤ fold (λ v digit. v * 10 + (digit - 48)) value digits
more value [] = omega arith
more value (digit ∷ digits) = omega (arith, more (value * 10 + (digit - 48)) digits)

pub with_digit : (value digit : ℕ) (digits : List ℕ) → is_digit digit ≡ true → number_from value (digit ∷ digits) ≡ number_from (value * 10 + (digit - 48)) digits
with_digit value digit digits h = rw h

pub too_large : (value : ℕ) (digits : List ℕ) → greatest_number < value → number_from value digits ≡ Err Number
too_large value digits h =
    let m = more value digits in
    grind (arith, nat_tests)

pub ends : (value : ℕ) → value ≤ greatest_number → number_from value [] ≡ Ok value
ends value h = grind (arith, nat_tests)

-- the same at an index of the word
pub digit_at : (word : List ℕ) (i value : ℕ) → i < length word → is_digit (get_or word i 0) ≡ true
    → number_from value (drop i word) ≡ number_from (value * 10 + (get_or word i 0 - 48)) (drop (i + 1) word)
digit_at word i value lt h = at_drop_more (number_from value) word i 0 lt ∙ with_digit value (get_or word i 0) (drop (i + 1) word) h

pub large_at : (word : List ℕ) (i value : ℕ) → i < length word → is_digit (get_or word i 0) ≡ true
    → greatest_number < value * 10 + (get_or word i 0 - 48) → number_from value (drop i word) ≡ Err Number
large_at word i value lt h large = digit_at word i value lt h ∙ too_large (value * 10 + (get_or word i 0 - 48)) (drop (i + 1) word) large

pub end_at : (word : List ℕ) (i value : ℕ) → length word ≤ i → value ≤ greatest_number → number_from value (drop i word) ≡ Ok value
end_at word i value le h = at_drop_all (number_from value) word i le ∙ ends value h
