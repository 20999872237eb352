-- The values of a row as text, the last one first.
use Rattle.std.proofs.Common.{◌≡◌, ℕ, ℤ, List, [], ◌∷◌, ◌++◌, length, append_assoc, ap, sym, ◌∙◌, refl, arith}
use Rattle.std.specs.Fmt.{signed_decimal}
use Rattle.fl_words.specs.Reply.{spaced}

-- the values before the last one, and the last one with what stands behind it
pub spaced-last : (front : List ℤ) (last : ℤ) (rest : List ℕ) → spaced front ++ (32 ∷ (signed_decimal last ++ rest)) ≡ spaced (front ++ last ∷ []) ++ rest
spaced-last [] last rest = sym (append_assoc (32 ∷ signed_decimal last) [] rest)
spaced-last (value ∷ front) last rest =
    let before = 32 ∷ signed_decimal value in
    append_assoc before (spaced front) _ ∙ ap (λ l. before ++ l) (spaced-last front last rest) ∙ sym (append_assoc before (spaced (front ++ last ∷ [])) rest)

-- where no value is left, a key before what was written stands before all values
pub key-before : (key left values : List ℕ) (none : length left ≡ 0) (note line done : List ℕ) → left ++ done ≡ values ++ note ++ line → key ++ done ≡ key ++ values ++ note ++ line
key-before key [] values none note line done same = ap (λ l. key ++ l) same ∙ sym (append_assoc key (values ++ note) line) ∙ ap (λ l. l ++ line) (sym (append_assoc key values note))
key-before key (byte ∷ left) values none note line done same = absurd (omega (arith, none))

-- no text of no value
pub spaced-none : (left : List ℤ) → length left ≡ 0 → length (spaced left) ≡ 0
spaced-none [] none = refl
spaced-none (value ∷ left) none = absurd (omega (arith, none))
