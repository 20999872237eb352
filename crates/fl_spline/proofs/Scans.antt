-- One more point, in the scan and in what the code keeps.
use Rattle.std.proofs.Common.{ℕ, ◌≡◌, ◌<◌, ◌≤◌, ◌+◌, ◌-◌, List, [], ◌∷◌, ◌++◌, true, false, length, take, refl, ap, ◌∙◌, sym, arith, Option, Some, None, append_assoc, length-append}
use Rattle.fl_model.proofs.Lists.{push_not_nil}
use Rattle.fl_spline.specs.declared.corridor.Corridor.{Corridor}
use Rattle.fl_spline.specs.Points.{newest, last_of}
use Rattle.fl_spline.specs.Corridor.{Covers, passes}
use Rattle.fl_spline.specs.Scan.{Scan, scan_step, end_of, end_or, Holds}
use Rattle.fl_spline.proofs.Lists.{newest-short, newest-push, newest-replace, last_of-newest, end_or-push, length-newest_end}

-- the knots before the last
abbrev front_of : List (ℕ × ℕ) → ℕ × ℕ → List (ℕ × ℕ) → List (ℕ × ℕ)
front_of fixed base [] = fixed
front_of fixed base (p ∷ ps) = fixed ++ base ∷ []

knots-split : (fixed : List (ℕ × ℕ)) (base : ℕ × ℕ) (run : List (ℕ × ℕ)) → fixed ++ base ∷ end_of run ≡ front_of fixed base run ++ end_or base run ∷ []
knots-split fixed base [] = refl
knots-split fixed base (p ∷ ps) = sym (append_assoc fixed (base ∷ []) (end_or p ps ∷ []))

-- the last knot is the last point
last-is : (n error : ℕ) (s : Scan) (ks : List (ℕ × ℕ)) (c : Corridor) → 0 < n → Holds n error (Some s) ks c → last_of ks ≡ Some (end_or s.base s.run)
last-is n error s ks c positive h =
    ap last_of (h.knots ∙ ap (newest n) (knots-split s.fixed s.base s.run))
    ∙ last_of-newest n (front_of s.fixed s.base s.run) (end_or s.base s.run) positive

-- the first point
pub scan-first : (n error : ℕ) (s : Option Scan) (ks ks' : List (ℕ × ℕ)) (c c' : Corridor) (p : ℕ × ℕ) → 0 < n → last_of ks ≡ None
    → Holds n error s ks c → ks' ≡ ks ++ p ∷ [] → c'.base ≡ p → Covers error c' [] → Holds n error (scan_step error s p) ks' c'
scan-first n error None ks ks' c c' p positive none h new base covers =
    record { knots = new ∙ ap (λ xs. xs ++ p ∷ []) (h.knots ∙ newest-short n [] (omega arith)) ∙ sym (newest-short n (p ∷ []) (omega arith)); corridor = record { base = base; covers = covers; first = λ _. refl } }
scan-first n error (Some s) ks ks' c c' p positive none h new base covers = absurd (cc (last-is n error s ks c positive h))

break-knots : (n error : ℕ) (fixed : List (ℕ × ℕ)) (base : ℕ × ℕ) (run : List (ℕ × ℕ)) (p : ℕ × ℕ) → 0 < n → passes error base run p ≡ false
    → newest n (newest n (fixed ++ base ∷ end_of run) ++ p ∷ []) ≡ newest n ((fixed ++ base ∷ []) ++ end_or base run ∷ p ∷ [])
break-knots n error fixed base [] p positive far = absurd (cc far)
break-knots n error fixed base (r ∷ rs) p positive far =
    newest-push n (fixed ++ base ∷ end_or r rs ∷ []) p positive
    ∙ ap (newest n) (append_assoc fixed (base ∷ end_or r rs ∷ []) (p ∷ []) ∙ sym (append_assoc fixed (base ∷ []) (end_or r rs ∷ p ∷ [])))

-- a point that ends the segment before it
pub scan-break : (n error : ℕ) (s : Option Scan) (ks ks' : List (ℕ × ℕ)) (c c' : Corridor) (p end : ℕ × ℕ) → 0 < n → last_of ks ≡ Some end
    → Holds n error s ks c → ((points : List (ℕ × ℕ)) → Covers error c points → passes error c.base points p ≡ false)
    → ks' ≡ newest n (ks ++ p ∷ []) → c'.base ≡ end → Covers error c' (p ∷ []) → Holds n error (scan_step error s p) ks' c'
scan-break n error None ks ks' c c' p end positive last h far new base covers =
    let none : ks ≡ [] = h.knots ∙ newest-short n [] (omega arith) in
    absurd (cc (ap last_of none))
scan-break n error (Some s) ks ks' c c' p end positive last h far new base covers =
    let here : passes error s.base s.run p ≡ false = ap (λ b. passes error b s.run p) (sym h.corridor.base) ∙ far s.run h.corridor.covers in
    let same : end ≡ end_or s.base s.run = cc (last-is n error s ks c positive h) in
    rw here record {
      knots = new ∙ ap (λ xs. newest n (xs ++ p ∷ [])) h.knots ∙ break-knots n error s.fixed s.base s.run p positive here;
      corridor = record { base = base ∙ same; covers = covers; first = λ e. absurd (cc e) };
    }

one-knots : (n : ℕ) (fixed : List (ℕ × ℕ)) (base : ℕ × ℕ) (run : List (ℕ × ℕ)) (p : ℕ × ℕ) → 2 ≤ n → length (newest n (fixed ++ base ∷ end_of run)) ≤ 1
    → newest n (newest n (fixed ++ base ∷ end_of run) ++ p ∷ []) ≡ newest n (fixed ++ base ∷ end_of (run ++ p ∷ []))
one-knots n fixed base [] p two one =
    newest-push n (fixed ++ base ∷ []) p (omega arith) ∙ ap (newest n) (append_assoc fixed (base ∷ []) (p ∷ []))
one-knots n fixed base (r ∷ rs) p two one =
    let split : fixed ++ base ∷ end_or r rs ∷ [] ≡ (fixed ++ base ∷ []) ++ end_or r rs ∷ [] = sym (append_assoc fixed (base ∷ []) (end_or r rs ∷ [])) in
    let len : length (newest n (fixed ++ base ∷ end_or r rs ∷ [])) ≡ length (fixed ++ base ∷ []) - (length (fixed ++ base ∷ []) + 1 - n) + 1
    = ap (λ xs. length (newest n xs)) split ∙ length-newest_end n (fixed ++ base ∷ []) (end_or r rs) (omega arith) in
    absurd (omega (arith, len, length-append fixed (base ∷ [])))

-- the second point
pub scan-second : (n error : ℕ) (s : Option Scan) (ks ks' : List (ℕ × ℕ)) (c c' : Corridor) (p end : ℕ × ℕ) → 2 ≤ n → last_of ks ≡ Some end → length ks ≤ 1
    → Holds n error s ks c → ((points : List (ℕ × ℕ)) → Covers error c points → passes error c.base points p ≡ true)
    → ks' ≡ newest n (ks ++ p ∷ []) → c'.base ≡ c.base → ((points : List (ℕ × ℕ)) → Covers error c points → Covers error c' (points ++ p ∷ []))
    → Holds n error (scan_step error s p) ks' c'
scan-second n error None ks ks' c c' p end two last one h near new base covers =
    let none : ks ≡ [] = h.knots ∙ newest-short n [] (omega arith) in
    absurd (cc (ap last_of none))
scan-second n error (Some s) ks ks' c c' p end two last one h near new base covers =
    let here : passes error s.base s.run p ≡ true = ap (λ b. passes error b s.run p) (sym h.corridor.base) ∙ near s.run h.corridor.covers in
    let few : length (newest n (s.fixed ++ s.base ∷ end_of s.run)) ≤ 1 = omega (arith, ap length h.knots) in
    rw here record {
      knots = new ∙ ap (λ xs. newest n (xs ++ p ∷ [])) h.knots ∙ one-knots n s.fixed s.base s.run p two few;
      corridor = record { base = base ∙ h.corridor.base; covers = covers s.run h.corridor.covers; first = λ e. absurd (push_not_nil s.run p e) };
    }

more-knots : (n : ℕ) (fixed : List (ℕ × ℕ)) (base : ℕ × ℕ) (run : List (ℕ × ℕ)) (p : ℕ × ℕ) → 2 ≤ n → (run ≡ [] → fixed ≡ [])
    → 1 < length (newest n (fixed ++ base ∷ end_of run))
    → take (length (newest n (fixed ++ base ∷ end_of run)) - 1) (newest n (fixed ++ base ∷ end_of run)) ++ p ∷ [] ≡ newest n (fixed ++ base ∷ end_of (run ++ p ∷ []))
more-knots n fixed base [] p two first more =
    let none : fixed ≡ [] = first refl in
    let len : length (newest n (fixed ++ base ∷ [])) ≡ length (newest n (base ∷ [])) = ap (λ xs. length (newest n (xs ++ base ∷ []))) none in
    absurd (omega (arith, len, length-newest_end n [] base (omega arith)))
more-knots n fixed base (r ∷ rs) p two first more =
    let split : fixed ++ base ∷ end_or r rs ∷ [] ≡ (fixed ++ base ∷ []) ++ end_or r rs ∷ [] = sym (append_assoc fixed (base ∷ []) (end_or r rs ∷ [])) in
    ap (λ xs. take (length (newest n xs) - 1) (newest n xs) ++ p ∷ []) split
    ∙ newest-replace n (fixed ++ base ∷ []) (end_or r rs) p (omega arith)
    ∙ ap (newest n) (append_assoc fixed (base ∷ []) (p ∷ []) ∙ ap (λ e. fixed ++ base ∷ e ∷ []) (sym (end_or-push r rs p)))

-- one more point of the segment
pub scan-more : (n error : ℕ) (s : Option Scan) (ks ks' : List (ℕ × ℕ)) (c c' : Corridor) (p end : ℕ × ℕ) → 2 ≤ n → last_of ks ≡ Some end → 1 < length ks
    → Holds n error s ks c → ((points : List (ℕ × ℕ)) → Covers error c points → passes error c.base points p ≡ true)
    → ks' ≡ take (length ks - 1) ks ++ p ∷ [] → c'.base ≡ c.base → ((points : List (ℕ × ℕ)) → Covers error c points → Covers error c' (points ++ p ∷ []))
    → Holds n error (scan_step error s p) ks' c'
scan-more n error None ks ks' c c' p end two last more h near new base covers =
    let none : ks ≡ [] = h.knots ∙ newest-short n [] (omega arith) in
    absurd (cc (ap last_of none))
scan-more n error (Some s) ks ks' c c' p end two last more h near new base covers =
    let here : passes error s.base s.run p ≡ true = ap (λ b. passes error b s.run p) (sym h.corridor.base) ∙ near s.run h.corridor.covers in
    let many : 1 < length (newest n (s.fixed ++ s.base ∷ end_of s.run)) = omega (arith, ap length h.knots) in
    rw here record {
      knots = new ∙ ap (λ xs. take (length xs - 1) xs ++ p ∷ []) h.knots ∙ more-knots n s.fixed s.base s.run p two h.corridor.first many;
      corridor = record { base = base ∙ h.corridor.base; covers = covers s.run h.corridor.covers; first = λ e. absurd (push_not_nil s.run p e) };
    }
