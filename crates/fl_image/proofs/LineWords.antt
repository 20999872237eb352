-- Words without spaces, and lines of them.
use Rattle.std.proofs.Common.{◌≡◌, ℕ, zero, suc, ◌<◌, ◌≤◌, true, false, cond, eqb, nat_lt, List, [], ◌∷◌, ◌++◌, length, filter, replicate, refl, ◌∙◌, ap, append_assoc, arith}
use Rattle.std.specs.List.{All, AllByRecursion, slice_split, join_with_byte}
use Rattle.std.proofs.lemmas.Bool.Decides.{nat_tests}
use Rattle.std.proofs.lemmas.List.Elements.{All-from_recursion}
use Rattle.std.proofs.lemmas.List.Splits.{slice_split_at, slice_split_none}
use Rattle.fl_model.proofs.Lists.{each-append, each-weaker}
use Rattle.fl_words.specs.Grammar.{words_in, without_return}
use Rattle.fl_words.specs.Medium.{line_text}
use Rattle.fl_words.specs.Parts.{line_parts}

-- each byte comes after the space
abbrev pub IsVisible : List ℕ → Type 0
IsVisible word = AllByRecursion (λ byte. 32 < byte) word

pub record IsWord (word : List ℕ) : Type 0 where
  pub some : 0 < length word
  pub visible : IsVisible word

-- each byte is a space or comes after it
abbrev pub IsText : List ℕ → Type 0
IsText text = AllByRecursion (λ byte. 32 ≤ byte) text

-- no byte is that one
abbrev HasNo : ℕ → List ℕ → Type 0
HasNo c xs = AllByRecursion (λ byte. eqb byte c ≡ false) xs

has-no : (c : ℕ) (xs : List ℕ) → HasNo c xs → All (λ byte. eqb byte c ≡ false) xs
has-no c xs h = All-from_recursion (λ byte. eqb byte c ≡ false) xs h

-- parts that were joined by a byte that is in none of them are found again
pub split-join : (c : ℕ) (parts : List (List ℕ)) → eqb c c ≡ true → 0 < length parts → AllByRecursion (HasNo c) parts → slice_split (λ byte. eqb byte c) (join_with_byte c parts) ≡ parts
split-join c [] same some none = absurd (omega (arith, some))
split-join c (part ∷ []) same some none = slice_split_none (λ byte. eqb byte c) part (has-no c part none.0)
split-join c (part ∷ next ∷ parts) same some none =
    slice_split_at (λ byte. eqb byte c) part c (join_with_byte c (next ∷ parts)) (has-no c part none.0) same
    ∙ ap (λ l. part ∷ l) (split-join c (next ∷ parts) same (omega arith) none.1)

-- ---- the words of a line

no-space : (byte : ℕ) → 32 < byte → eqb byte 32 ≡ false
no-space byte lt = grind (arith, nat_tests, lt)

no-newline : (byte : ℕ) → 32 ≤ byte → eqb byte 10 ≡ false
no-newline byte le = grind (arith, nat_tests, le)

spaceless : (words : List (List ℕ)) → AllByRecursion IsWord words → AllByRecursion (HasNo 32) words
spaceless [] h = tt
spaceless (word ∷ words) h = (each-weaker (λ byte. 32 < byte) (λ byte. eqb byte 32 ≡ false) no-space word h.0.visible, spaceless words h.1)

kept : (words : List (List ℕ)) → AllByRecursion IsWord words → filter (λ word. nat_lt 0 (length word)) words ≡ words
kept [] h = refl
kept (word ∷ words) h =
    let some : nat_lt 0 (length word) ≡ true = grind (arith, nat_tests, h.0.some) in
    ap (λ t. cond t (word ∷ filter (λ w. nat_lt 0 (length w)) words) (filter (λ w. nat_lt 0 (length w)) words)) some ∙ ap (λ l. word ∷ l) (kept words h.1)

pub line-words : (words : List (List ℕ)) → 0 < length words → AllByRecursion IsWord words → words_in (join_with_byte 32 words) ≡ words
line-words words some h = ap (filter (λ word. nat_lt 0 (length word))) (split-join 32 words refl some (spaceless words h)) ∙ kept words h

-- ---- the text of a line

visible-text : (word : List ℕ) → IsVisible word → IsText word
visible-text word h = each-weaker (λ byte. 32 < byte) (λ byte. 32 ≤ byte) (λ byte lt. omega (arith, lt)) word h

pub line-is_text : (words : List (List ℕ)) → AllByRecursion IsWord words → IsText (join_with_byte 32 words)
line-is_text [] h = tt
line-is_text (word ∷ []) h = visible-text word h.0.visible
line-is_text (word ∷ next ∷ words) h =
    each-append (λ byte. 32 ≤ byte) word (32 ∷ join_with_byte 32 (next ∷ words)) (visible-text word h.0.visible) (omega arith, line-is_text (next ∷ words) h.1)

pub text-return : (text : List ℕ) → IsText text → without_return text ≡ text
text-return [] h = refl
text-return (byte ∷ []) h =
    let other : eqb byte 13 ≡ false = grind (arith, nat_tests, h.0) in
    ap (λ t. cond t [] (byte ∷ [])) other
text-return (byte ∷ next ∷ text) h = ap (λ l. byte ∷ l) (text-return (next ∷ text) h.1)

-- a line and its newline before another text are its first part
pub line-part : (words : List (List ℕ)) (rest : List ℕ) → AllByRecursion IsWord words → line_parts (line_text words ++ rest) ≡ join_with_byte 32 words ∷ line_parts rest
line-part words rest h =
    let line = join_with_byte 32 words in
    ap line_parts (append_assoc line (10 ∷ []) rest)
    ∙ slice_split_at (λ byte. eqb byte 10) line 10 rest (has-no 10 line (each-weaker (λ byte. 32 ≤ byte) (λ byte. eqb byte 10 ≡ false) no-newline line (line-is_text words h))) refl

-- ---- spaces alone

abbrev spaces : ℕ → List ℕ
spaces n = replicate n 32

pub spaces-text : (n : ℕ) → IsText (spaces n)
spaces-text zero = tt
spaces-text (suc n) = (omega arith, spaces-text n)

pub spaces-part : (n : ℕ) → line_parts (spaces n) ≡ spaces n ∷ []
spaces-part n = slice_split_none (λ byte. eqb byte 10) (spaces n) (has-no 10 (spaces n) (each-weaker (λ byte. 32 ≤ byte) (λ byte. eqb byte 10 ≡ false) no-newline (spaces n) (spaces-text n)))

pub spaces-words : (n : ℕ) → words_in (spaces n) ≡ []
spaces-words zero = refl
spaces-words (suc n) = spaces-words n
