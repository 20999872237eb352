-- Lists of numbers, read word by word.
use Rattle.std.proofs.Common.{◌≡◌, ℕ, ℤ, ◌+◌, ◌<◌, ◌≤◌, Bool, true, false, ◌&&◌, nat_le, if◌then◌else◌, List, [], ◌∷◌, ◌++◌, length, map, drop, get_or, Option, Some, None, Result, Ok, Err, refl, sym, ◌∙◌, arith, cond, append_assoc, append-nil, length-append, Bor, eqb, eqb-true}
use Rattle.std.specs.List.{list_all}
use Rattle.std.proofs.lemmas.List.{at_drop_more, at_drop_all}
use Rattle.std.proofs.lemmas.Bool.Decides.{nat_tests}
use Rattle.fl_script.specs.Lines.{is_column}
use Rattle.fl_words.specs.Grammar.{LineFault, Number, each_signed, are_digits, value_of, number, ◌>>=◌}

-- the numbers so far, and those of the other words
abbrev pub each_from : List ℤ → List (Bor (List ℕ)) → Result (List ℤ) LineFault
each_from done words = each_signed (map (λ word. word.now) words) >>= λ values. Ok (done ++ values)

abbrev pub columns_from : List ℕ → List (List ℕ) → Option (List ℕ)
columns_from done parts =
    if list_all is_column parts && nat_le (length done + length parts) 8 then Some (done ++ map value_of parts) else None

columns_more : (done : List ℕ) (part : List ℕ) (parts : List (List ℕ)) → is_column part ≡ true → columns_from done (part ∷ parts) ≡ columns_from (done ++ value_of part ∷ []) parts
columns_more done part parts h =
    let e : length done + length (part ∷ parts) ≡ length (done ++ value_of part ∷ []) + length parts = omega (arith, length-append done (value_of part ∷ [])) in
    rw (h, e, append_assoc done (value_of part ∷ []) (map value_of parts)) refl

columns_bad : (done : List ℕ) (part : List ℕ) (parts : List (List ℕ)) → is_column part ≡ false → columns_from done (part ∷ parts) ≡ None
columns_bad done part parts h = rw h refl

columns_full : (done : List ℕ) (part : List ℕ) (parts : List (List ℕ)) → 8 ≤ length done → columns_from done (part ∷ parts) ≡ None
columns_full done part parts h =
    let f : nat_le (length done + length (part ∷ parts)) 8 ≡ false = grind (arith, nat_tests) in
    rw f (never (list_all is_column (part ∷ parts)))
  where
    never : (b : Bool) → cond (b && false) (Some (done ++ map value_of (part ∷ parts))) None ≡ None
    never true = refl
    never false = refl

-- the same at the part of a turn
pub columns_at : (parts : List (List ℕ)) (n : ℕ) (part : List ℕ) (value : ℕ) (done : List ℕ) → (n < length parts) × (part ≡ get_or parts n part)
    → is_column part ≡ true → value ≡ value_of part → columns_from done (drop n parts) ≡ columns_from (done ++ value ∷ []) (drop (n + 1) parts)
columns_at parts n part value done t h v =
    let here : get_or parts n part ≡ part = sym t.1 in
    at_drop_more (columns_from done) parts n part t.0 ∙ rw (here, v) (columns_more done part (drop (n + 1) parts) h)

pub columns_bad_at : (parts : List (List ℕ)) (n : ℕ) (part : List ℕ) (done : List ℕ) → (n < length parts) × (part ≡ get_or parts n part)
    → is_column part ≡ false → columns_from done (drop n parts) ≡ None
columns_bad_at parts n part done t h =
    let here : get_or parts n part ≡ part = sym t.1 in
    at_drop_more (columns_from done) parts n part t.0 ∙ rw here (columns_bad done part (drop (n + 1) parts) h)

pub columns_full_at : (parts : List (List ℕ)) (n : ℕ) (part : List ℕ) (done : List ℕ) → (n < length parts) × (part ≡ get_or parts n part)
    → eqb (length done) 8 ≡ true → columns_from done (drop n parts) ≡ None
columns_full_at parts n part done t h =
    let eight : length done ≡ 8 = eqb-true _ _ h in
    at_drop_more (columns_from done) parts n part t.0 ∙ columns_full done (get_or parts n part) (drop (n + 1) parts) (omega (arith, eight))

pub columns_end : (parts : List (List ℕ)) (n : ℕ) (done : List ℕ) → n ≡ length parts → length done ≤ 8 → columns_from done (drop n parts) ≡ Some done
columns_end parts n done e l =
    let f : nat_le (length done + 0) 8 ≡ true = grind (arith, nat_tests) in
    at_drop_all (columns_from done) parts n (omega (arith, e)) ∙ rw (f, append-nil done) refl

pub few : (part : List ℕ) → length part ≤ 3 → number part ≡ Err Number → are_digits part ≡ false
few [] l h = refl
few (a ∷ []) l h = grind (arith, nat_tests)
few (a ∷ b ∷ []) l h = grind (arith, nat_tests)
few (a ∷ b ∷ c ∷ []) l h = grind (arith, nat_tests)
few (a ∷ b ∷ c ∷ d ∷ part) l h = absurd (omega (arith, l))

pub digits : (part : List ℕ) (value : ℕ) → number part ≡ Ok value → (are_digits part ≡ true) × (value ≡ value_of part)
digits part value h = digits-at (are_digits part) refl (nat_le (value_of part) 18446744073709551615) h
  where
    digits-at : (t : Bool) → are_digits part ≡ t → (u : Bool) → cond (t && nat_le 0 (value_of part) && u) (Ok (value_of part)) (Err Number) ≡ Ok value → (are_digits part ≡ true) × (value ≡ value_of part)
    digits-at t e u g = grind (arith, nat_tests)

pub room_left : (n : ℕ) → n ≤ 8 → eqb n 8 ≡ false → n + 1 ≤ 8
room_left n le h = grind (arith, nat_tests)
