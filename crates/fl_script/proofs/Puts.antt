-- The values of a put and its blob word.
use Rattle.std.proofs.Common.{◌≡◌, ℕ, ◌<◌, ◌≤◌, Bool, true, false, List, [], ◌∷◌, ◌++◌, length, map, Option, Some, None, Err, codes, refl, sym, ap, ◌∙◌, arith, cond, Bor, append_assoc, take, drop, ◌-◌, nat_le}
use Rattle.std.proofs.lemmas.Bool.Decides.{nat_tests}
use Rattle.fl_script.proofs.Few.{word_at}
use Rattle.std.proofs.lemmas.List.{map-append, length-map, take_all}
use Rattle.fl_model.specs.Record.{bytes_equal}
use Rattle.fl_words.specs.Grammar.{Form, blob_split, blob_word, put_blob, put_parts, part, is_name, put_line}
use Rattle.fl_script.specs.Lines.{blob_bytes, just}
use Rattle.fl_script.proofs.Long.{no-form}

abbrev marked : Bool → List (List ℕ) → List ℕ → List ℕ → List (List ℕ) × Option (List ℕ)
marked t values mark blob = cond t (values, Some blob) (values ++ mark ∷ blob ∷ [], None)

onto : (t : Bool) (value : List ℕ) (values : List (List ℕ)) (mark blob : List ℕ)
    → (value ∷ (marked t values mark blob).0, (marked t values mark blob).1) ≡ marked t (value ∷ values) mark blob
onto true value values mark blob = refl
onto false value values mark blob = refl

last_two : (values : List (List ℕ)) (mark blob : List ℕ) → blob_split (values ++ mark ∷ blob ∷ []) ≡ marked (bytes_equal mark (codes "blob")) values mark blob
last_two [] mark blob = refl
last_two (a ∷ []) mark blob = onto (bytes_equal mark (codes "blob")) a [] mark blob
last_two (a ∷ b ∷ []) mark blob = ap (λ split. (a ∷ split.0, split.1)) (last_two (b ∷ []) mark blob) ∙ onto (bytes_equal mark (codes "blob")) a (b ∷ []) mark blob
last_two (a ∷ b ∷ c ∷ values) mark blob =
    ap (λ split. (a ∷ split.0, split.1)) (last_two (b ∷ c ∷ values) mark blob) ∙ onto (bytes_equal mark (codes "blob")) a (b ∷ c ∷ values) mark blob

abbrev pub nows : List (Bor (List ℕ)) → List (List ℕ)
nows words = map (λ word. word.now) words

ends : (words rest values : List (Bor (List ℕ))) (mark blob : Bor (List ℕ)) → words ≡ rest ++ blob ∷ [] → rest ≡ values ++ mark ∷ []
    → nows words ≡ nows values ++ mark.now ∷ blob.now ∷ []
ends words rest values mark blob e f =
    ap nows (e ∙ ap (λ xs. xs ++ blob ∷ []) f ∙ append_assoc values (mark ∷ []) (blob ∷ [])) ∙ map-append (λ word. word.now) values (mark ∷ blob ∷ [])

pub with_blob : (words rest values : List (Bor (List ℕ))) (mark blob : Bor (List ℕ)) → words ≡ rest ++ blob ∷ [] → rest ≡ values ++ mark ∷ []
    → bytes_equal mark.now (codes "blob") ≡ true → blob_split (nows words) ≡ (nows values, Some blob.now)
with_blob words rest values mark blob e f h =
    ap blob_split (ends words rest values mark blob e f) ∙ last_two (nows values) mark.now blob.now
    ∙ ap (λ t. marked t (nows values) mark.now blob.now) h

pub no_blob : (words rest values : List (Bor (List ℕ))) (mark blob : Bor (List ℕ)) → words ≡ rest ++ blob ∷ [] → rest ≡ values ++ mark ∷ []
    → bytes_equal mark.now (codes "blob") ≡ false → blob_split (nows words) ≡ (nows words, None)
no_blob words rest values mark blob e f h =
    ap blob_split (ends words rest values mark blob e f) ∙ last_two (nows values) mark.now blob.now
    ∙ ap (λ t. marked t (nows values) mark.now blob.now) h ∙ ap (λ xs. (xs, None)) (sym (ends words rest values mark blob e f))

-- a put by the bytes of its blob word
pub put_by : (name key : List ℕ) (words : List (List ℕ)) (blob : Option (List ℕ)) → put_blob name key words blob ≡ part (blob_bytes blob) (λ bytes. put_parts name key words bytes)
put_by name key words None = refl
put_by name key words (Some word) = by (blob_word word)
  where
    by : (bytes : Option (List ℕ)) → part bytes (λ b. put_parts name key words (Some b)) ≡ part (just bytes) (λ b. put_parts name key words b)
    by None = refl
    by (Some b) = refl

-- the first words, and the others
pub one_and_more : (words : List (Bor (List ℕ))) → 1 ≤ length words → nows words ≡ word_at words 0 ∷ nows (take (length words - 1) (drop 1 words))
one_and_more [] h = absurd (omega (arith, h))
one_and_more (a ∷ words) h =
    let e : length (a ∷ words) - 1 ≡ length words = omega arith in
    rw (e, take_all (length words) words (omega arith)) refl

pub two_and_more : (words : List (Bor (List ℕ))) → 2 ≤ length words → nows words ≡ word_at words 0 ∷ word_at words 1 ∷ nows (take (length words - 2) (drop 2 words))
two_and_more [] h = absurd (omega (arith, h))
two_and_more (a ∷ []) h = absurd (omega (arith, h))
two_and_more (a ∷ b ∷ words) h =
    let e : length (a ∷ b ∷ words) - 2 ≡ length words = omega arith in
    rw (e, take_all (length words) words (omega arith)) refl

-- a put of a name that is one and of 16 values at most
pub put_as : (words values : List (Bor (List ℕ))) (blob : Option (List ℕ)) → 2 ≤ length words → is_name (word_at words 0) ≡ true
    → blob_split (nows (take (length words - 2) (drop 2 words))) ≡ (nows values, blob) → length values ≤ 16
    → put_line (nows words) ≡ part (blob_bytes blob) (λ bytes. put_parts (word_at words 0) (word_at words 1) (nows values) bytes)
put_as words values blob h n s few =
    let size : nat_le (length (nows values)) 16 ≡ true = grind (arith, nat_tests, length-map values (λ (word : Bor (List ℕ)). word.now)) in
    rw (two_and_more words h, n, s, size) (put_by (word_at words 0) (word_at words 1) (nows values) blob)

pub too_many : (words values : List (Bor (List ℕ))) (blob : Option (List ℕ)) → 2 ≤ length words
    → blob_split (nows (take (length words - 2) (drop 2 words))) ≡ (nows values, blob) → 16 < length values → put_line (nows words) ≡ Err Form
too_many words values blob h s many =
    let size : nat_le (length (nows values)) 16 ≡ false = grind (arith, nat_tests, length-map values (λ (word : Bor (List ℕ)). word.now)) in
    rw (two_and_more words h, s, size) (no-form (is_name (word_at words 0)) _)
