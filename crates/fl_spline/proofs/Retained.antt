-- The scan finds the knots of the definition.
use Rattle.std.proofs.Common.{ℕ, zero, suc, ◌≡◌, ◌≤◌, ◌+◌, ◌-◌, List, [], ◌∷◌, ◌++◌, Bool, true, false, length, drop, refl, ap, ◌∙◌, sym, arith, Option, Some, None, append_assoc, length-append, fold}
use Rattle.std.specs.Prelude.{unwrap_or, slice_get}
use Rattle.std.proofs.Math.Seq.{drop-append_seam}
use Rattle.std.proofs.lemmas.List.Sums.{fold-append}
use Rattle.fl_model.specs.Spline.{reach, knots_after, knots_of}
use Rattle.fl_spline.specs.declared.spline.Spline.{Spline}
use Rattle.fl_spline.specs.Points.{IsFurther, last_of, newest}
use Rattle.fl_spline.specs.Corridor.{passes}
use Rattle.fl_spline.specs.Scan.{Scan, scan_step, scan, scan_knots, end_or, Holds}
use Rattle.fl_spline.specs.Spline.{kept, SplineOf}
use Rattle.fl_spline.proofs.Lists.{last_of-push, rises-push}

-- the knots from a on
abbrev knots_from : ℕ → ℕ → ℕ × ℕ → List (ℕ × ℕ) → List (ℕ × ℕ)
knots_from most error a ps = a ∷ knots_after error most a ps

-- each point of the run is near, whatever comes after it
abbrev IsRun : ℕ → ℕ × ℕ → List (ℕ × ℕ) → Type 0
IsRun error a run = (qs : List (ℕ × ℕ)) → reach error a [] (run ++ qs) ≡ length run + reach error a run qs

-- the end of a run that is followed by other points
run-end : (d r : ℕ × ℕ) (rs qs : List (ℕ × ℕ)) → unwrap_or (slice_get ((r ∷ rs) ++ qs) (length rs)) d ≡ end_or r rs
run-end d r [] qs = refl
run-end d r (x ∷ rs) qs = run-end d x rs qs

-- the first segment of a list whose run is known
knots-cut : (most error : ℕ) (a q : ℕ × ℕ) (qs : List (ℕ × ℕ)) (len : ℕ) → reach error a [] (q ∷ qs) ≡ len
    → knots_after error (suc most) a (q ∷ qs)
    ≡ unwrap_or (slice_get (q ∷ qs) (len - 1)) q ∷ knots_after error most (unwrap_or (slice_get (q ∷ qs) (len - 1)) q) (drop len (q ∷ qs))
knots-cut most error a q qs len e =
    ap (λ n. unwrap_or (slice_get (q ∷ qs) (n - 1)) q ∷ knots_after error most (unwrap_or (slice_get (q ∷ qs) (n - 1)) q) (drop n (q ∷ qs))) e

knots-none : (most error : ℕ) (a : ℕ × ℕ) → knots_from most error a [] ≡ a ∷ []
knots-none zero error a = refl
knots-none (suc most) error a = refl

-- a run, and then a list whose first point, if there is one, is not near
knots-run : (most error : ℕ) (a r : ℕ × ℕ) (rs qs : List (ℕ × ℕ)) → IsRun error a (r ∷ rs) → reach error a (r ∷ rs) qs ≡ 0
    → knots_from (suc most) error a ((r ∷ rs) ++ qs) ≡ a ∷ knots_from most error (end_or r rs) qs
knots-run most error a r rs qs run stop =
    let len : reach error a [] (r ∷ (rs ++ qs)) ≡ length (r ∷ rs) = run qs ∙ omega (arith, stop) in
    let one : length (r ∷ rs) - 1 ≡ length rs = omega arith in
    ap (λ ks. a ∷ ks) (knots-cut most error a r (rs ++ qs) (length (r ∷ rs)) len)
    ∙ ap (λ n. a ∷ unwrap_or (slice_get ((r ∷ rs) ++ qs) n) r ∷ knots_after error most (unwrap_or (slice_get ((r ∷ rs) ++ qs) n) r) (drop (length (r ∷ rs)) ((r ∷ rs) ++ qs))) one
    ∙ ap (λ b. a ∷ b ∷ knots_after error most b (drop (length (r ∷ rs)) ((r ∷ rs) ++ qs))) (run-end r r rs qs)
    ∙ ap (λ xs. a ∷ knots_from most error (end_or r rs) xs) (drop-append_seam (r ∷ rs) qs)

run-one : (error : ℕ) (a p : ℕ × ℕ) → IsRun error a (p ∷ [])
run-one error a p qs = omega arith

run-more : (error : ℕ) (a : ℕ × ℕ) (run : List (ℕ × ℕ)) (p : ℕ × ℕ) → IsRun error a run → passes error a run p ≡ true → IsRun error a (run ++ p ∷ [])
run-more error a run p is near qs =
    let next : reach error a run (p ∷ qs) ≡ 1 + reach error a (run ++ p ∷ []) qs = rw near refl in
    ap (reach error a []) (append_assoc run (p ∷ []) qs) ∙ is (p ∷ qs) ∙ omega (arith, next, length-append run (p ∷ []))

run-stops : (error : ℕ) (a : ℕ × ℕ) (run : List (ℕ × ℕ)) (p : ℕ × ℕ) (ps : List (ℕ × ℕ)) → passes error a run p ≡ false → reach error a run (p ∷ ps) ≡ 0
run-stops error a run p ps far = rw far refl

-- what is to be shown of the points that are left
abbrev Finds : ℕ → List (ℕ × ℕ) → Type 0
Finds error ps = (fixed : List (ℕ × ℕ)) (a : ℕ × ℕ) (run : List (ℕ × ℕ)) (most : ℕ) → IsRun error a run → length (run ++ ps) ≤ most
    → scan_knots (fold (scan_step error) (Some record { fixed = fixed; base = a; run = run }) ps) ≡ fixed ++ knots_from most error a (run ++ ps)

finds-none : (error : ℕ) → Finds error []
finds-none error fixed a [] most is le = ap (λ ks. fixed ++ ks) (sym (knots-none most error a))
finds-none error fixed a (r ∷ rs) zero is le = absurd (omega (arith, le))
finds-none error fixed a (r ∷ rs) (suc most) is le =
    ap (λ ks. fixed ++ ks) (sym (knots-run most error a r rs [] is refl ∙ ap (λ ks. a ∷ ks) (knots-none most error (end_or r rs))))

finds-far : (error : ℕ) (p : ℕ × ℕ) (ps : List (ℕ × ℕ)) → Finds error ps → (fixed : List (ℕ × ℕ)) (a : ℕ × ℕ) (run : List (ℕ × ℕ)) (most : ℕ)
    → IsRun error a run → length (run ++ p ∷ ps) ≤ most → passes error a run p ≡ false
    → scan_knots (fold (scan_step error) (Some record { fixed = fixed ++ a ∷ []; base = end_or a run; run = p ∷ [] }) ps) ≡ fixed ++ knots_from most error a (run ++ p ∷ ps)
finds-far error p ps ih fixed a [] most is le far = absurd (cc far)
finds-far error p ps ih fixed a (r ∷ rs) zero is le far = absurd (omega (arith, le))
finds-far error p ps ih fixed a (r ∷ rs) (suc most) is le far =
    ih (fixed ++ a ∷ []) (end_or r rs) (p ∷ []) most (run-one error (end_or r rs) p) (omega (arith, le, length-append rs (p ∷ ps)))
    ∙ append_assoc fixed (a ∷ []) (knots_from most error (end_or r rs) (p ∷ ps))
    ∙ ap (λ ks. fixed ++ ks) (sym (knots-run most error a r rs (p ∷ ps) is (run-stops error a (r ∷ rs) p ps far)))

finds-near : (error : ℕ) (p : ℕ × ℕ) (ps : List (ℕ × ℕ)) → Finds error ps → (fixed : List (ℕ × ℕ)) (a : ℕ × ℕ) (run : List (ℕ × ℕ)) (most : ℕ)
    → IsRun error a run → length (run ++ p ∷ ps) ≤ most → passes error a run p ≡ true
    → scan_knots (fold (scan_step error) (Some record { fixed = fixed; base = a; run = run ++ p ∷ [] }) ps) ≡ fixed ++ knots_from most error a (run ++ p ∷ ps)
finds-near error p ps ih fixed a run most is le near =
    let same : (run ++ p ∷ []) ++ ps ≡ run ++ p ∷ ps = append_assoc run (p ∷ []) ps in
    ih fixed a (run ++ p ∷ []) most (run-more error a run p is near) (omega (arith, le, ap length same))
    ∙ ap (λ xs. fixed ++ knots_from most error a xs) same

finds-at : (error : ℕ) (p : ℕ × ℕ) (ps : List (ℕ × ℕ)) → Finds error ps → (fixed : List (ℕ × ℕ)) (a : ℕ × ℕ) (run : List (ℕ × ℕ)) (most : ℕ)
    → IsRun error a run → length (run ++ p ∷ ps) ≤ most → (b : Bool) → passes error a run p ≡ b
    → scan_knots (fold (scan_step error) (scan_step error (Some record { fixed = fixed; base = a; run = run }) p) ps) ≡ fixed ++ knots_from most error a (run ++ p ∷ ps)
finds-at error p ps ih fixed a run most is le true e = rw e (finds-near error p ps ih fixed a run most is le e)
finds-at error p ps ih fixed a run most is le false e = rw e (finds-far error p ps ih fixed a run most is le e)

finds : (error : ℕ) (ps : List (ℕ × ℕ)) → Finds error ps
finds error [] = finds-none error
finds error (p ∷ ps) = λ fixed a run most is le. finds-at error p ps (finds error ps) fixed a run most is le (passes error a run p) refl

-- the knots that the scan finds are those of the definition
pub scan_knots-is : (error : ℕ) (points : List (ℕ × ℕ)) → scan_knots (scan error points) ≡ knots_of error points
scan_knots-is error [] = refl
scan_knots-is error (a ∷ ps) = finds error ps [] a [] (length ps) (λ qs. omega arith) (omega arith)

scan-push : (error : ℕ) (points : List (ℕ × ℕ)) (p : ℕ × ℕ) → scan error (points ++ p ∷ []) ≡ scan_step error (scan error points) p
scan-push error points p = fold-append (scan_step error) None points (p ∷ [])

-- what holds of the scan is the spline of the points
pub SplineOf-push : {KNOTS : ℕ} (old new : Spline KNOTS) (error : ℕ) (points : List (ℕ × ℕ)) (p : ℕ × ℕ) → new.error ≡ old.error
    → last_of (kept new) ≡ Some p → IsFurther (kept old) p
    → ((s : Option Scan) → Holds KNOTS old.error s old.knots.items old.corridor → Holds KNOTS old.error (scan_step old.error s p) new.knots.items new.corridor)
    → SplineOf error points old → SplineOf error (points ++ p ∷ []) new
SplineOf-push {KNOTS} old new error points p same last past step h =
    let held : Holds KNOTS old.error (scan error points) old.knots.items old.corridor
    = rw h.bound record { knots = h.knots ∙ ap (newest KNOTS) (sym (scan_knots-is error points)); corridor = h.corridor } in
    let moved : Holds KNOTS error (scan_step error (scan error points) p) new.knots.items new.corridor
    = rw h.bound at (step (scan error points) held) in
    let next : Holds KNOTS error (scan error (points ++ p ∷ [])) new.knots.items new.corridor
    = rw (scan-push error points p) moved in
    let far : IsFurther points p = rw (← h.last) past in
    record {
      knots = next.knots ∙ ap (newest KNOTS) (scan_knots-is error (points ++ p ∷ []));
      last = last ∙ sym (last_of-push points p);
      rises = rises-push points p h.rises far;
      bound = same ∙ h.bound;
      corridor = next.corridor;
    }
