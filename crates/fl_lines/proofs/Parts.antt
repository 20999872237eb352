-- The lines of a text of which the first line is known.
use Rattle.std.proofs.Common.{◌≡◌, ℕ, ◌+◌, ◌-◌, ◌<◌, Bool, true, false, nat_lt, ◌==◌, None, List, [], ◌∷◌, ◌++◌, length, take, suc, inl, inr, refl, sym, ◌∙◌, ap, arith, length-append}
use Rattle.std.specs.Prelude.{All, unwrap_or, if◌then◌else◌}
use Rattle.std.specs.List.{last_or}
use Rattle.std.proofs.lemmas.List.Splits.{slice_split_at, slice_split_none, length-slice_split}
use Rattle.std.proofs.lemmas.Bool.{cases_lt, lt-ltb, le-ltb, ne_eqb}
use Rattle.std.proofs.Math.Seq.{take-append-add}
use Rattle.fl_words.specs.Grammar.{no_empty_last, lines_of}
use Rattle.fl_words.specs.Parts.{line_parts}
use Rattle.fl_words.proofs.Lines.{no_empty-last}
use Rattle.fl_lines.specs.Texts.{all_but_last, whole_lines, rest_of, long_rest, lines_within}

-- a text without a newline
abbrev pub OneLine : List ℕ → Type 0
OneLine line = All (λ byte. (byte == 10) ≡ false) line

pub parts-line : (line rest : List ℕ) → OneLine line → line_parts (line ++ 10 ∷ rest) ≡ line ∷ line_parts rest
parts-line line rest h = slice_split_at (λ byte. byte == 10) line 10 rest h refl

pub parts-rest : (line : List ℕ) → OneLine line → line_parts line ≡ line ∷ []
parts-rest line h = slice_split_none (λ byte. byte == 10) line h

pub parts-some : (text : List ℕ) → 0 < length (line_parts text)
parts-some text = omega (arith, length-slice_split (λ byte. byte == 10) text)

but-last : (line : List ℕ) (parts : List (List ℕ)) → 0 < length parts → all_but_last (line ∷ parts) ≡ line ∷ all_but_last parts
but-last line [] h = absurd (omega arith)
but-last line (part ∷ parts) h = refl

last-of : (line : List ℕ) (parts : List (List ℕ)) → 0 < length parts → last_or None (line ∷ parts) ≡ last_or None parts
last-of line [] h = absurd (omega arith)
last-of line (part ∷ parts) h = refl

pub whole-line : (line rest : List ℕ) → OneLine line → whole_lines (line ++ 10 ∷ rest) ≡ line ∷ whole_lines rest
whole-line line rest h = ap all_but_last (parts-line line rest h) ∙ but-last line (line_parts rest) (parts-some rest)

pub whole-rest : (line : List ℕ) → OneLine line → whole_lines line ≡ []
whole-rest line h = ap all_but_last (parts-rest line h)

pub rest-line : (line rest : List ℕ) → OneLine line → rest_of (line ++ 10 ∷ rest) ≡ rest_of rest
rest-line line rest h =
    ap (λ o. unwrap_or o []) (ap (last_or None) (parts-line line rest h) ∙ last-of line (line_parts rest) (parts-some rest))

pub rest-rest : (line : List ℕ) → OneLine line → rest_of line ≡ line
rest-rest line h = ap (λ parts. unwrap_or (last_or None parts) []) (parts-rest line h)

pub lines-line : (line rest : List ℕ) → OneLine line → lines_of (line ++ 10 ∷ rest) ≡ line ∷ lines_of rest
lines-line line rest h = ap no_empty_last (parts-line line rest h) ∙ no_empty-last line (line_parts rest) (parts-some rest)

pub lines-rest : (line : List ℕ) → OneLine line → 0 < length line → lines_of line ≡ line ∷ []
lines-rest line h some =
    ap no_empty_last (parts-rest line h)
    ∙ ap (λ empty. if empty then [] else line ∷ []) (ne_eqb (length line) 0 (λ e. omega arith))

-- the first bytes of a text with a first line
take-line : (line rest : List ℕ) (most : ℕ) → length line < most → take most (line ++ 10 ∷ rest) ≡ line ++ 10 ∷ take (most - (length line + 1)) rest
take-line line rest most h =
    let e : most ≡ length line + suc (most - (length line + 1)) = omega arith in
    ap (λ n. take n (line ++ 10 ∷ rest)) e ∙ take-append-add line (10 ∷ rest) (suc (most - (length line + 1)))

pub same_test : (a b c d : ℕ) → (a < b → c < d) → (c < d → a < b) → nat_lt a b ≡ nat_lt c d
same_test a b c d f g = elim (cases_lt a b) [
  | inl h ↦ lt-ltb a b h ∙ sym (lt-ltb c d (f h))
  | inr h ↦ le-ltb a b h ∙ sym (elim (cases_lt c d) [ inl k ↦ absurd (omega (arith, g k)) | inr k ↦ le-ltb c d k ])
]

long-line : (line rest : List ℕ) (most : ℕ) → length line < most → nat_lt most (length (line ++ 10 ∷ rest)) ≡ nat_lt (most - (length line + 1)) (length rest)
long-line line rest most h =
    let e : length (line ++ 10 ∷ rest) ≡ length line + (length rest + 1) = length-append line (10 ∷ rest) ∙ omega arith in
    same_test most (length (line ++ 10 ∷ rest)) (most - (length line + 1)) (length rest) (λ k. omega arith) (λ k. omega arith)

within_cases : (line rest : List ℕ) (most : ℕ) (b : Bool) → OneLine line → length line < most →
    (if b then whole_lines (take most (line ++ 10 ∷ rest)) ++ long_rest (take most (line ++ 10 ∷ rest)) else lines_of (line ++ 10 ∷ rest))
    ≡ line ∷ (if b then whole_lines (take (most - (length line + 1)) rest) ++ long_rest (take (most - (length line + 1)) rest) else lines_of rest)
within_cases line rest most true h short =
    let cut = take (most - (length line + 1)) rest in
    let e = take-line line rest most short in
    let r : rest_of (take most (line ++ 10 ∷ rest)) ≡ rest_of cut = ap rest_of e ∙ rest-line line cut h in
    ap (λ lines. lines ++ long_rest (take most (line ++ 10 ∷ rest))) (ap whole_lines e ∙ whole-line line cut h)
    ∙ ap (λ x. line ∷ whole_lines cut ++ (if nat_lt 4096 (length x) then x ∷ [] else [])) r
within_cases line rest most false h short = lines-line line rest h

pub within-line : (line rest : List ℕ) (most : ℕ) → OneLine line → length line < most →
    lines_within most (line ++ 10 ∷ rest) ≡ line ∷ lines_within (most - (length line + 1)) rest
within-line line rest most h short =
    within_cases line rest most (nat_lt most (length (line ++ 10 ∷ rest))) h short
    ∙ ap (λ b. line ∷ (if b then whole_lines (take (most - (length line + 1)) rest) ++ long_rest (take (most - (length line + 1)) rest) else lines_of rest))
    (long-line line rest most short)
