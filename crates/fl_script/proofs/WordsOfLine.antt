-- The words of a line, one after the other.
use Rattle.std.proofs.Common.{◌≡◌, ℕ, ◌+◌, ◌<◌, ◌≤◌, Bool, true, false, not, List, [], ◌∷◌, ◌++◌, length, take, drop, filter, nat_lt, refl, sym, ap, ◌∙◌, arith, cond, eqb, suc, subst, ap₂, ◌-◌, map, eqb-true, length-take, length-drop, append-nil}
use Rattle.std.specs.List.{slice_split, onto_first, prefix_len}
use Rattle.std.proofs.lemmas.List.{take_all, length-map, nil_from_length}
use Rattle.std.proofs.lemmas.List.Sums.{prefix_len-le-length}
use Rattle.std.proofs.lemmas.List.Folds.{length-prefix_len}
use Rattle.std.proofs.lemmas.Bool.Decides.{nat_tests}
use Rattle.fl_words.specs.Grammar.{words_in, without_return}

abbrev is_space : ℕ → Bool
is_space byte = eqb byte 32

abbrev non_empty : List (List ℕ) → List (List ℕ)
non_empty parts = filter (λ word. nat_lt 0 (length word)) parts

abbrev parts : List ℕ → List (List ℕ)
parts line = slice_split is_space line

abbrev letters : List ℕ → ℕ
letters line = prefix_len (λ byte. not (is_space byte)) line

-- the parts behind the first one
abbrev behind : List ℕ → List (List ℕ)
behind [] = []
behind (byte ∷ bytes) = parts bytes

take_more : (n x : ℕ) (xs : List ℕ) → take (1 + n) (x ∷ xs) ≡ x ∷ take n xs
take_more n x xs = let e : 1 + n ≡ suc n = omega arith in rw e

drop_more : (n x : ℕ) (xs : List ℕ) → drop (1 + n) (x ∷ xs) ≡ drop n xs
drop_more n x xs = let e : 1 + n ≡ suc n = omega arith in rw e

split : (line : List ℕ) → parts line ≡ take (letters line) line ∷ behind (drop (letters line) line)
split [] = refl
split (byte ∷ bytes) =
    let n = letters bytes in
    elim (is_space byte) as (λ t. cond t ([] ∷ parts bytes) (onto_first byte (parts bytes)) ≡
    take (cond (not t) (1 + n) 0) (byte ∷ bytes) ∷ behind (drop (cond (not t) (1 + n) 0) (byte ∷ bytes))) [
      | true ↦ refl
      | false ↦ rw (split bytes, take_more n byte bytes, drop_more n byte bytes)
    ]

behind-words : (line : List ℕ) → non_empty (behind (drop (letters line) line)) ≡ words_in (drop (letters line) line)
behind-words [] = refl
behind-words (byte ∷ bytes) = behind-at byte bytes (is_space byte) refl (behind-words bytes)
  where
    behind-at : (byte : ℕ) (bytes : List ℕ) (t : Bool) → is_space byte ≡ t → non_empty (behind (drop (letters bytes) bytes)) ≡ words_in (drop (letters bytes) bytes)
        → non_empty (behind (drop (cond (not t) (1 + letters bytes) 0) (byte ∷ bytes))) ≡ words_in (drop (cond (not t) (1 + letters bytes) 0) (byte ∷ bytes))
    behind-at byte bytes true h more = rw h
    behind-at byte bytes false h more = rw (drop_more (letters bytes) byte bytes) more

pub no_spaces : (line : List ℕ) → words_in (drop (prefix_len is_space line) line) ≡ words_in line
no_spaces [] = refl
no_spaces (byte ∷ bytes) = no_spaces-at byte bytes (is_space byte) refl (no_spaces bytes)
  where
    no_spaces-at : (byte : ℕ) (bytes : List ℕ) (t : Bool) → is_space byte ≡ t → words_in (drop (prefix_len is_space bytes) bytes) ≡ words_in bytes
        → words_in (drop (cond t (1 + prefix_len is_space bytes) 0) (byte ∷ bytes)) ≡ words_in (byte ∷ bytes)
    no_spaces-at byte bytes true h more = rw (drop_more (prefix_len is_space bytes) byte bytes, h) more
    no_spaces-at byte bytes false h more = refl

-- a line that begins with a letter
pub begins : (line : List ℕ) → 0 < letters line → 0 < length line → words_in line ≡ take (letters line) line ∷ words_in (drop (letters line) line)
begins line h l =
    let e = ap non_empty (split line) in
    let w = behind-words line in
    grind (arith, nat_tests, length-take (letters line) line)

pub has_letter : (line : List ℕ) → 0 < length (drop (prefix_len is_space line) line) → 0 < letters (drop (prefix_len is_space line) line)
has_letter [] h = absurd (omega arith)
has_letter (byte ∷ bytes) h = has_letter-at byte bytes (is_space byte) refl (has_letter bytes) h
  where
    has_letter-at : (byte : ℕ) (bytes : List ℕ) (t : Bool) → is_space byte ≡ t
        → (0 < length (drop (prefix_len is_space bytes) bytes) → 0 < letters (drop (prefix_len is_space bytes) bytes))
        → 0 < length (drop (cond t (1 + prefix_len is_space bytes) 0) (byte ∷ bytes)) → 0 < letters (drop (cond t (1 + prefix_len is_space bytes) 0) (byte ∷ bytes))
    has_letter-at byte bytes true e more h = rw (drop_more (prefix_len is_space bytes) byte bytes) (more (rw (drop_more (prefix_len is_space bytes) byte bytes) at h))
    has_letter-at byte bytes false e more h = rw e (omega arith)

pub none_left : (line rest : List ℕ) (n : ℕ) → rest ≡ drop n line → n ≡ prefix_len is_space line → eqb (length rest) 0 ≡ true → words_in line ≡ []
none_left line rest n e en h =
    sym (no_spaces line) ∙ ap words_in (sym (e ∙ ap (λ k. drop k line) en)) ∙ ap words_in (nil_from_length rest (eqb-true _ _ h))

pub prefix_fits : (p : ℕ → Bool) (line : List ℕ) → prefix_len p line ≤ length line
prefix_fits p line = prefix_len-le-length p line

-- the first word, and what is left behind it
pub first : (line rest word after : List ℕ) (n m : ℕ) → rest ≡ drop n line → n ≡ prefix_len is_space line → eqb (length rest) 0 ≡ false
    → word ≡ take m rest → after ≡ drop m rest → m ≡ letters rest
    → (words_in line ≡ word ∷ words_in after) × (length word ≤ length line) × (length after < length line)
first line rest word after n m e en h ew ea em =
    let l : 0 < length rest = grind (arith, nat_tests, h) in
    let front : rest ≡ drop (prefix_len is_space line) line = e ∙ ap (λ k. drop k line) en in
    let starts : 0 < letters rest = subst (λ (xs : List ℕ). 0 < letters xs) (sym front) (has_letter line (subst (λ (xs : List ℕ). 0 < length xs) front l)) in
    let words : words_in line ≡ words_in rest = sym (no_spaces line) ∙ ap words_in (sym front) in
    let taken : length word ≡ letters rest = ap length (ew ∙ ap (λ k. take k rest) em) ∙ length-prefix_len (λ byte. not (is_space byte)) rest in
    let lens : length after ≡ length rest - letters rest = ap length (ea ∙ ap (λ k. drop k rest) em) ∙ length-drop (letters rest) rest in
    let less : length rest ≤ length line = rw (ap length e, length-drop n line) (omega arith) in
    let fits = prefix_fits (λ byte. not (is_space byte)) rest in (
      words ∙ begins rest starts l ∙ ap₂ (λ x y. x ∷ words_in y) (sym (ew ∙ ap (λ k. take k rest) em)) (sym (ea ∙ ap (λ k. drop k rest) em)),
      omega (arith, taken, less, fits),
      omega (arith, lens, less, fits, starts, l),
    )

-- the words are all there
pub all_there : {X : Type 0} (f : X → List ℕ) (room : List X) (n : ℕ) (rest all : List (List ℕ)) → map f (take n room) ++ rest ≡ all → rest ≡ [] → n ≤ 22 → map f (take n room) ≡ take 22 all
all_there f room n rest all e none le =
    let words : map f (take n room) ≡ all = sym (append-nil (map f (take n room))) ∙ (ap (λ r. map f (take n room) ++ r) (sym none) ∙ e) in
    let len : length (map f (take n room)) ≤ 22 = omega (arith, length-map (take n room) f, length-take n room, le) in
    sym (take_all 22 (map f (take n room)) len) ∙ ap (take 22) words

return_dropped : (front : List ℕ) → without_return (front ++ 13 ∷ []) ≡ front
return_dropped [] = refl
return_dropped (a ∷ []) = refl
return_dropped (a ∷ b ∷ bytes) = ap (λ xs. a ∷ xs) (return_dropped (b ∷ bytes))

other_kept : (front : List ℕ) (last : ℕ) → (last ≡ 13 → ⊥) → without_return (front ++ last ∷ []) ≡ front ++ last ∷ []
other_kept [] last h = grind (arith, nat_tests)
other_kept (a ∷ []) last h = grind (arith, nat_tests)
other_kept (a ∷ b ∷ bytes) last h = ap (λ xs. a ∷ xs) (other_kept (b ∷ bytes) last h)

pub dropped : (line front : List ℕ) (last : ℕ) → line ≡ front ++ last ∷ [] → last ≡ 13 → front ≡ without_return line
dropped line front last e h = sym (ap without_return (e ∙ ap (λ b. front ++ b ∷ []) h) ∙ return_dropped front)

pub kept : (line front : List ℕ) (last : ℕ) → line ≡ front ++ last ∷ [] → (last ≡ 13 → ⊥) → line ≡ without_return line
kept line front last e h = e ∙ sym (ap without_return e ∙ other_kept front last h)
