-- The newest knots of a list, and the scan's knots against the definition.
use Rattle.std.proofs.Common.{ℕ, ◌≡◌, ◌<◌, ◌≤◌, ◌+◌, ◌-◌, List, [], ◌∷◌, ◌++◌, length, take, drop, refl, ap, ◌∙◌, sym, arith, Some, ⊎_elim, length-append, length-drop, length-take, get_or}
use Rattle.std.proofs.lemmas.Bool.{cases_lt}
use Rattle.std.proofs.lemmas.List.{drop-drop, drop-append-le, get_or-take, get_or-drop}
use Rattle.std.proofs.lemmas.List.Quantifiers.{all_pairs_push}
use Rattle.std.proofs.lemmas.Option.{slice_get-get_or}
use Rattle.std.proofs.Math.Seq.{take-append_seam}
use Rattle.fl_model.proofs.Lists.{drop_none, slice_get-last}
use Rattle.fl_spline.specs.Points.{IsPast, IsFurther, Rises, newest, last_of}
use Rattle.fl_spline.specs.Scan.{end_or}

pub newest-short : (n : ℕ) (xs : List (ℕ × ℕ)) → length xs ≤ n → newest n xs ≡ xs
newest-short n xs h = let e : length xs - n ≡ 0 = omega arith in rw e (drop_none xs)

-- the newest of a list that ends in p
pub newest-end : (n : ℕ) (xs : List (ℕ × ℕ)) (p : ℕ × ℕ) → 0 < n → newest n (xs ++ p ∷ []) ≡ drop (length xs + 1 - n) xs ++ p ∷ []
newest-end n xs p positive =
    let len : length (xs ++ p ∷ []) ≡ length xs + 1 = length-append xs (p ∷ []) in
    rw len (drop-append-le (length xs + 1 - n) xs (p ∷ []) (omega arith))

pub length-newest_end : (n : ℕ) (xs : List (ℕ × ℕ)) (p : ℕ × ℕ) → 0 < n → length (newest n (xs ++ p ∷ [])) ≡ length xs - (length xs + 1 - n) + 1
length-newest_end n xs p positive =
    rw (newest-end n xs p positive) (length-append (drop (length xs + 1 - n) xs) (p ∷ []) ∙ ap (λ k. k + 1) (length-drop (length xs + 1 - n) xs))

pub newest-push : (n : ℕ) (xs : List (ℕ × ℕ)) (p : ℕ × ℕ) → 0 < n → newest n (newest n xs ++ p ∷ []) ≡ newest n (xs ++ p ∷ [])
newest-push n xs p positive =
    let kept : length (newest n xs) ≡ length xs - (length xs - n) = length-drop (length xs - n) xs in
    newest-end n (newest n xs) p positive
    ∙ ap (λ ys. ys ++ p ∷ []) (drop-drop (length (newest n xs) + 1 - n) (length xs - n) xs ∙ ap (λ k. drop k xs) (omega arith))
    ∙ sym (newest-end n xs p positive)

pub newest-replace : (n : ℕ) (xs : List (ℕ × ℕ)) (z p : ℕ × ℕ) → 0 < n
    → take (length (newest n (xs ++ z ∷ [])) - 1) (newest n (xs ++ z ∷ [])) ++ p ∷ [] ≡ newest n (xs ++ p ∷ [])
newest-replace n xs z p positive =
    let front = drop (length xs + 1 - n) xs in
    let len : length (front ++ z ∷ []) - 1 ≡ length front = omega (arith, length-append front (z ∷ [])) in
    rw (newest-end n xs z positive, len, take-append_seam front (z ∷ [])) (sym (newest-end n xs p positive))

pub last_of-push : (xs : List (ℕ × ℕ)) (p : ℕ × ℕ) → last_of (xs ++ p ∷ []) ≡ Some p
last_of-push xs p =
    let at : length (xs ++ p ∷ []) - 1 ≡ length xs = omega (arith, length-append xs (p ∷ [])) in
    rw at (slice_get-last xs p)

pub last_of-newest : (n : ℕ) (xs : List (ℕ × ℕ)) (p : ℕ × ℕ) → 0 < n → last_of (newest n (xs ++ p ∷ [])) ≡ Some p
last_of-newest n xs p positive = rw (newest-end n xs p positive) (last_of-push (drop (length xs + 1 - n) xs) p)

pub end_or-push : (a : ℕ × ℕ) (xs : List (ℕ × ℕ)) (p : ℕ × ℕ) → end_or a (xs ++ p ∷ []) ≡ p
end_or-push a [] p = refl
end_or-push a (x ∷ xs) p = end_or-push x xs p

pub last_of-at : (xs : List (ℕ × ℕ)) (d : ℕ × ℕ) → 0 < length xs → last_of xs ≡ Some (get_or xs (length xs - 1) d)
last_of-at xs d some = slice_get-get_or xs (length xs - 1) d (omega arith)

-- a later one still
pub past-trans : (p q r : ℕ × ℕ) → IsPast p q → IsPast q r → IsPast p r
past-trans p q r h k = (omega (arith, h, k), omega (arith, h, k))

-- the points rise, also with one more, and without the first or the last ones
pub rises-push : (xs : List (ℕ × ℕ)) (p : ℕ × ℕ) → Rises xs → IsFurther xs p → Rises (xs ++ p ∷ [])
rises-push xs p up past = all_pairs_push IsPast xs p up (λ k d lt.
    let end : IsPast (get_or xs (length xs - 1) d) p = rw (last_of-at xs d (omega arith)) at past in
    ⊎_elim
    (λ before. past-trans (get_or xs k d) (get_or xs (length xs - 1) d) p (up k (length xs - 1) d before (omega arith)) end)
    (λ after. let same : k ≡ length xs - 1 = omega arith in rw same end)
    (cases_lt k (length xs - 1)))

pub rises-drop : (n : ℕ) (xs : List (ℕ × ℕ)) → Rises xs → Rises (drop n xs)
rises-drop n xs up i j d lt within =
    rw (get_or-drop n xs i d, get_or-drop n xs j d) (up (n + i) (n + j) d (omega arith) (omega (arith, length-drop n xs)))

pub rises-take : (n : ℕ) (xs : List (ℕ × ℕ)) → Rises xs → Rises (take n xs)
rises-take n xs up i j d lt within =
    let less : j < n = omega (arith, length-take n xs) in
    let inside : j < length xs = omega (arith, length-take n xs) in
    let first : i < n = omega arith in
    rw (get_or-take n xs i d, get_or-take n xs j d) (up i j d lt inside)

-- a point in the place of the last one
pub rises-replace : (xs : List (ℕ × ℕ)) (p : ℕ × ℕ) → Rises xs → IsFurther xs p → 0 < length xs → Rises (take (length xs - 1) xs ++ p ∷ [])
rises-replace xs p up past some = all_pairs_push IsPast (take (length xs - 1) xs) p (rises-take (length xs - 1) xs up) (λ k d lt.
    let end : IsPast (get_or xs (length xs - 1) d) p = rw (last_of-at xs d some) at past in
    let less : k < length xs - 1 = omega (arith, length-take (length xs - 1) xs) in
    rw (get_or-take (length xs - 1) xs k d) (past-trans (get_or xs k d) (get_or xs (length xs - 1) d) p (up k (length xs - 1) d less (omega arith)) end))

pub rises-newest : (n : ℕ) (xs : List (ℕ × ℕ)) (p : ℕ × ℕ) → Rises xs → IsFurther xs p → Rises (newest n (xs ++ p ∷ []))
rises-newest n xs p up past = rises-drop (length (xs ++ p ∷ []) - n) (xs ++ p ∷ []) (rises-push xs p up past)

pub ruleset pushes = (last_of-push, last_of-newest, rises-newest, rises-replace)
