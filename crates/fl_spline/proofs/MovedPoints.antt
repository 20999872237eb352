-- Which points one more point moves: the last one alone, where no other came or went.
use Rattle.std.proofs.Common.{ℕ, ◌≡◌, ◌<◌, ◌≤◌, ◌+◌, ◌-◌, List, [], ◌∷◌, ◌++◌, length, take, drop, arith, refl, ap, sym, ◌∙◌, Some, length-append, length-take, length-drop, get_or}
use Rattle.std.proofs.lemmas.List.{get_or-take, get_or-drop}
use Rattle.std.proofs.lemmas.Option.{slice_get-get_or, same_Some}
use Rattle.std.proofs.Math.ListN.{get_or-append}
use Rattle.std.proofs.Math.Seq.{get_or-append_seam}
use Rattle.fl_spline.specs.Points.{IsPast, IsFurther, Rises, LastMoved, newest, oldest_key}
use Rattle.fl_spline.proofs.Lists.{newest-end, length-newest_end, last_of-at}

oldest-at : (xs : List (ℕ × ℕ)) → 0 < length xs → oldest_key xs ≡ Some (get_or xs 0 (0, 0)).0
oldest-at xs some = rw (slice_get-get_or xs 0 (0, 0) some) refl

-- the last point is replaced by a later one
pub moved-replace : (xs : List (ℕ × ℕ)) (p : ℕ × ℕ) → IsFurther xs p → 1 < length xs → LastMoved xs (take (length xs - 1) xs ++ p ∷ [])
moved-replace xs p past more =
    let front = take (length xs - 1) xs in
    let len : length front ≡ length xs - 1 = omega (arith, length-take (length xs - 1) xs) in
    let same : (j : ℕ) → j + 1 < length xs → get_or (front ++ p ∷ []) j (0, 0) ≡ get_or xs j (0, 0)
    = λ j lt. get_or-append front (p ∷ []) (0, 0) j (omega (arith, len)) ∙ get_or-take (length xs - 1) xs j (0, 0) (omega arith) in
    let end : IsPast (get_or xs (length xs - 1) (0, 0)) p = rw (last_of-at xs (0, 0) (omega arith)) at past in
    let last : get_or (front ++ p ∷ []) (length xs - 1) (0, 0) ≡ p = ap (λ k. get_or (front ++ p ∷ []) k (0, 0)) (sym len) ∙ get_or-append_seam front p [] (0, 0) in
    record {
      count = omega (arith, len, length-append front (p ∷ []));
      first = ap (λ (k : ℕ × ℕ). k.0) (same 0 (omega arith));
      before = same;
      later = rw last (omega (arith, end.0));
    }

-- one more point makes one more knot, or takes the oldest one away
pub moved-push : (n : ℕ) (xs : List (ℕ × ℕ)) (p : ℕ × ℕ) → 2 ≤ n → Rises xs → length (newest n (xs ++ p ∷ [])) ≡ length xs
    → oldest_key (newest n (xs ++ p ∷ [])) ≡ oldest_key xs → LastMoved xs (newest n (xs ++ p ∷ []))
moved-push n xs p two up count oldest =
    let full : length xs ≡ n = omega (arith, length-newest_end n xs p (omega arith), count) in
    let one : length xs + 1 - n ≡ 1 = omega (arith, full) in
    let new : newest n (xs ++ p ∷ []) ≡ drop 1 xs ++ p ∷ [] = newest-end n xs p (omega arith) ∙ ap (λ k. drop k xs ++ p ∷ []) one in
    let second : get_or (drop 1 xs ++ p ∷ []) 0 (0, 0) ≡ get_or xs 1 (0, 0)
    = get_or-append (drop 1 xs) (p ∷ []) (0, 0) 0 (omega (arith, full, length-drop 1 xs)) ∙ get_or-drop 1 xs 0 (0, 0) in
    let same : (get_or (newest n (xs ++ p ∷ [])) 0 (0, 0)).0 ≡ (get_or xs 0 (0, 0)).0
    = same_Some _ _ (sym (oldest-at (newest n (xs ++ p ∷ [])) (omega (arith, count, full))) ∙ oldest ∙ oldest-at xs (omega (arith, full))) in
    let rising = up 0 1 (0, 0) (omega arith) (omega (arith, full)) in
    let key : (get_or (newest n (xs ++ p ∷ [])) 0 (0, 0)).0 ≡ (get_or xs 1 (0, 0)).0 = ap (λ (ys : List (ℕ × ℕ)). (get_or ys 0 (0, 0)).0) new ∙ ap (λ (k : ℕ × ℕ). k.0) second in
    absurd (omega (arith, rising.0, key, same))
