-- A line by its first words.
use Rattle.std.proofs.Common.{◌≡◌, ℕ, ◌≤◌, true, false, nat_lt, List, [], ◌∷◌, length, take, Result, Ok, Err, refl, sym, subst, ap, ◌∙◌, arith, eqb, suc, Bor}
use Rattle.std.specs.List.{All, starts_with}
use Rattle.std.specs.Result.{is_err}
use Rattle.std.proofs.lemmas.Bool.Decides.{nat_tests}
use Rattle.std.proofs.lemmas.Bool.{false≢true}
use Rattle.fl_words.specs.Grammar.{words_in, without_return, words_command, line_of, command_of}
use Rattle.fl_script.specs.declared.command.Command as code
use Rattle.fl_script.specs.declared.command.LineFault as fault
use Rattle.fl_script.specs.Lines.{line_view}
use Rattle.fl_script.proofs.Puts.{nows}
use Rattle.fl_script.proofs.Long.{by_first}

pub others_short : (items others : List (Bor (List ℕ))) (first : Bor (List ℕ)) (n : ℕ) → items ≡ first ∷ others
    → All (λ word. length word.now ≤ n) items → n ≤ 4096 → All (λ word. length word.now ≤ 4096) others
others_short items others first n e h le k d lt =
    let all = subst (λ (xs : List (Bor (List ℕ))). All (λ word. length word.now ≤ n) xs) e h in
    omega (arith, all (suc k) d (omega (arith, lt)), le)

by_words : (words : List (List ℕ)) (first : List ℕ) (others : List (List ℕ)) → first ∷ others ≡ take 22 words
    → starts_with eqb first (35 ∷ []) ≡ false → words_command words ≡ line_of first others
by_words [] first others e h = absurd (never e)
  where
    never : first ∷ others ≡ [] → ⊥
    never e = let l = ap length e in omega (arith, l)
by_words (word ∷ words) first others e h =
    let w : first ≡ word = cc in
    let o : others ≡ take 21 words = cc in
    let t : starts_with eqb word (35 ∷ []) ≡ false = rw (← w) h in
    rw (t, w, o) (sym (by_first word words))

pub as_line : (bytes line : List ℕ) (items others : List (Bor (List ℕ))) (first : Bor (List ℕ)) → length bytes ≤ 4096 → line ≡ without_return bytes
    → nows items ≡ take 22 (words_in line) → items ≡ first ∷ others → starts_with eqb first.now (35 ∷ []) ≡ false
    → command_of bytes ≡ line_of first.now (nows others)
as_line bytes line items others first le e w i h =
    let short : nat_lt 4096 (length bytes) ≡ false = grind (arith, nat_tests) in
    rw short (by_words (words_in (without_return bytes)) first.now (nows others) (sym (ap nows i) ∙ w ∙ ap (λ l. take 22 (words_in l)) e) h)

pub by_fault : (result : Result code.Command fault.LineFault) (a b : List ℕ) → is_err result ≡ true → line_view result a ≡ line_view result b
by_fault (Ok command) a b h = absurd (false≢true h)
by_fault (Err fault) a b h = refl
