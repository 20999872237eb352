-- How near the estimate of a covered key is to the pages of the two points round it.
use Rattle.std.proofs.Common.{ℕ, zero, suc, ◌≡◌, ◌<◌, ◌≤◌, ◌+◌, ◌-◌, ◌*◌, ◌/◌, ◌%◌, List, [], ◌∷◌, ◌++◌, Bool, true, false, ltb, length, drop, refl, ap, ◌∙◌, sym, subst, arith, get_or, ⊎_elim, append_assoc, length-drop}
use Rattle.std.specs.Prelude.{slice_get, unwrap_or, IfSome}
use Rattle.std.specs.List.{list_all, AllByRecursion}
use Rattle.std.specs.Int.{abs_diff}
use Rattle.std.proofs.Math.Nat.{mul-le-mul_left, mul_comm}
use Rattle.std.proofs.lemmas.Bool.{cases_lt, leb-true, le-leb, lt-ltb, le-ltb, and_parts}
use Rattle.fl_model.proofs.Lists.{each-weaker, each-front, each-drop, and_right}
use Rattle.fl_model.specs.Spline.{is_near, reach, knots_after, knots_of, retained, is_covered, estimate}
use Rattle.fl_spline.specs.Points.{IsPast, Rises, last_of}
use Rattle.fl_spline.specs.declared.spline.Spline.{Spline}
use Rattle.fl_spline.specs.Spline.{SplineOf, kept}
use Rattle.fl_spline.specs.Segment.{InWindow, IsSegment, point_at}
use Rattle.fl_spline.proofs.Segments.{segment-covered}
use Rattle.fl_spline.proofs.Lists.{past-trans}

-- two points that are neighbours, against an estimate of a key
abbrev Between : ℕ → ℕ → ℕ → ℕ × ℕ → ℕ × ℕ → Type 0
Between error key page p q = p.0 ≤ key → key < q.0 → (p.1 ≤ page + error) × (page ≤ q.1 + error)

abbrev Window : ℕ → ℕ → ℕ → List (ℕ × ℕ) → Type 0
Window error key page [] = Unit {0}
Window error key page (p ∷ []) = p.0 ≤ key → page ≡ p.1
Window error key page (p ∷ q ∷ ps) = Between error key page p q × Window error key page (q ∷ ps)

-- each point is past all before it
abbrev Climbs : List (ℕ × ℕ) → Type 0
Climbs [] = Unit {0}
Climbs (p ∷ ps) = AllByRecursion (IsPast p) ps × Climbs ps

all-from-index : (P : ℕ × ℕ → Type 0) (xs : List (ℕ × ℕ)) → ((k : ℕ) (d : ℕ × ℕ) → k < length xs → P (get_or xs k d)) → AllByRecursion P xs
all-from-index P [] h = tt
all-from-index P (x ∷ xs) h = (h 0 x (omega arith), all-from-index P xs (λ k d lt. h (suc k) d (omega arith)))

climbs : (ps : List (ℕ × ℕ)) → Rises ps → Climbs ps
climbs [] up = tt
climbs (p ∷ ps) up = (
  all-from-index (IsPast p) ps (λ k d lt. up 0 (suc k) d (omega arith) (omega arith)),
  climbs ps (λ i j d lt within. up (suc i) (suc j) d (omega arith) (omega arith)),
)

all-mid : (P : ℕ × ℕ → Type 0) (xs : List (ℕ × ℕ)) (b : ℕ × ℕ) (rest : List (ℕ × ℕ)) → AllByRecursion P (xs ++ b ∷ rest) → P b
all-mid P [] b rest h = h.0
all-mid P (x ∷ xs) b rest h = all-mid P xs b rest h.1

climbs-back : (xs ys : List (ℕ × ℕ)) → Climbs (xs ++ ys) → Climbs ys
climbs-back [] ys up = up
climbs-back (x ∷ xs) ys up = climbs-back xs ys up.1

-- a line of DY over DX, at dk, against a point at dx whose rise is dy
near-low : (error dx dy DX DY dk : ℕ) → 0 < DX → dx ≤ dk → dy * DX ≤ dx * DY + error * DX → dy ≤ dk * DY / DX + error
near-low error dx dy DX DY dk positive le near = ⊎_elim
    (λ far.
    let q = dk * DY / DX in
    let part : DX * (dk * DY / DX) + (dk * DY) % DX ≡ dk * DY = omega arith in
    let left : (dk * DY) % DX < DX = omega arith in
    let more : dx * DY ≤ dk * DY = omega (arith, mul-le-mul_left DY le) in
    let high : DX * (dk * DY / DX + error + 1) ≤ DX * dy = mul-le-mul_left DX (omega arith) in
    absurd (omega (arith, part, left, more, high, near)))
    (λ le. le)
    (cases_lt (dk * DY / DX + error) dy)

near-high : (error dx dy DX DY dk : ℕ) → 0 < DX → dk ≤ dx → dx * DY ≤ dy * DX + error * DX → dk * DY / DX ≤ dy + error
near-high error dx dy DX DY dk positive le near = ⊎_elim
    (λ far.
    let part : DX * (dk * DY / DX) + (dk * DY) % DX ≡ dk * DY = omega arith in
    let more : dk * DY ≤ dx * DY = omega (arith, mul-le-mul_left DY le) in
    let high : DX * (dy + error + 1) ≤ DX * (dk * DY / DX) = mul-le-mul_left DX (omega arith) in
    absurd (omega (arith, part, more, high, near)))
    (λ le. le)
    (cases_lt (dy + error) (dk * DY / DX))

-- the page that the line from a to b gives for a key
abbrev line : ℕ × ℕ → ℕ × ℕ → ℕ → ℕ
line a b key = a.1 + (key - a.0) * (b.1 - a.1) / (b.0 - a.0)

apart-low : (m n e : ℕ) → abs_diff m n ≤ e → n ≤ m + e
apart-low m n e h = omega arith

apart-high : (m n e : ℕ) → abs_diff m n ≤ e → m ≤ n + e
apart-high m n e h = omega arith

line-low : (error key : ℕ) (a b p : ℕ × ℕ) → a.0 < b.0 → IsPast a p → is_near error a b p ≡ true → p.0 ≤ key → p.1 ≤ line a b key + error
line-low error key a b p wide past near le =
    let part = apart-low ((p.0 - a.0) * (b.1 - a.1)) ((p.1 - a.1) * (b.0 - a.0)) (error * (b.0 - a.0)) (leb-true _ _ near) in
    let low : p.1 - a.1 ≤ (key - a.0) * (b.1 - a.1) / (b.0 - a.0) + error
    = near-low error (p.0 - a.0) (p.1 - a.1) (b.0 - a.0) (b.1 - a.1) (key - a.0) (omega arith) (omega arith) part in
    omega (arith, low)

line-high : (error key : ℕ) (a b p : ℕ × ℕ) → a.0 < b.0 → IsPast a p → is_near error a b p ≡ true → key < p.0 → line a b key ≤ p.1 + error
line-high error key a b p wide past near lt =
    let part = apart-high ((p.0 - a.0) * (b.1 - a.1)) ((p.1 - a.1) * (b.0 - a.0)) (error * (b.0 - a.0)) (leb-true _ _ near) in
    let high : (key - a.0) * (b.1 - a.1) / (b.0 - a.0) ≤ p.1 - a.1 + error
    = near-high error (p.0 - a.0) (p.1 - a.1) (b.0 - a.0) (b.1 - a.1) (key - a.0) (omega arith) (omega arith) part in
    omega (arith, high, past.1)

-- the end of the line is passed exactly
line-end : (key : ℕ) (a b : ℕ × ℕ) → IsPast a b → key < b.0 → line a b key ≤ b.1
line-end key a b past lt =
    let high : (key - a.0) * (b.1 - a.1) / (b.0 - a.0) ≤ b.1 - a.1 + 0
    = near-high 0 (b.0 - a.0) (b.1 - a.1) (b.0 - a.0) (b.1 - a.1) (key - a.0) (omega (arith, past.0)) (omega arith) (omega (arith, mul_comm (b.0 - a.0) (b.1 - a.1))) in
    omega (arith, high, past.1)

-- points after the key ask nothing
beyond : (error key page : ℕ) (b : ℕ × ℕ) (rest : List (ℕ × ℕ)) → Climbs (b ∷ rest) → key < b.0 → Window error key page (b ∷ rest)
beyond error key page b [] up lt = λ le. absurd (omega arith)
beyond error key page b (q ∷ rest) up lt = (λ le _. absurd (omega arith), beyond error key page q rest up.1 (omega (arith, up.0.0.0)))

-- a key before the end of the segment
within : (error key : ℕ) (a b p : ℕ × ℕ) (xs rest : List (ℕ × ℕ)) → IsPast a b → key < b.0 → AllByRecursion (IsPast a) xs
    → list_all (is_near error a b) xs ≡ true → (p.0 ≤ key → p.1 ≤ line a b key + error) → Climbs (b ∷ rest)
    → Window error key (line a b key) (p ∷ (xs ++ b ∷ rest))
within error key a b p [] rest past lt all near low up =
    (λ le _. (low le, omega (arith, line-end key a b past lt)), beyond error key (line a b key) b rest up lt)
within error key a b p (x ∷ xs) rest past lt all near low up =
    let here : is_near error a b x ≡ true = (and_parts (is_near error a b x) (list_all (is_near error a b) xs) near).0 in (
      λ le before. (low le, line-high error key a b x past.0 all.0 here before),
      within error key a b x xs rest past lt all.1 (and_right (is_near error a b x) (list_all (is_near error a b) xs) near)
          (line-low error key a b x past.0 all.0 here) up,
    )

-- a key from the end of the segment on
over : (error key page : ℕ) (b p : ℕ × ℕ) (xs rest : List (ℕ × ℕ)) → b.0 ≤ key → Climbs (p ∷ (xs ++ b ∷ rest))
    → Window error key page (b ∷ rest) → Window error key page (p ∷ (xs ++ b ∷ rest))
over error key page b p [] rest le up w = (λ _ lt. absurd (omega arith), w)
over error key page b p (x ∷ xs) rest le up w =
    let before = all-mid (IsPast x) xs b rest up.1.0 in
    (λ _ lt. absurd (omega (arith, before.0)), over error key page b x xs rest le up.1 w)

-- a list of points is those between, which the line to b passes, then b, then the others
record Cut (error : ℕ) (a b : ℕ × ℕ) (ps rest : List (ℕ × ℕ)) : Type 0 where
  xs : List (ℕ × ℕ)
  split : ps ≡ xs ++ b ∷ rest
  near : list_all (is_near error a b) xs ≡ true

-- .. a point at place m of those after q
cut-next : (error : ℕ) (a d : ℕ × ℕ) (passed : List (ℕ × ℕ)) (q r : ℕ × ℕ) (rs : List (ℕ × ℕ)) (m n : ℕ) → n ≡ 1 + m
    → Cut error a (unwrap_or (slice_get (r ∷ rs) m) d) ((passed ++ q ∷ []) ++ r ∷ rs) (drop m rs)
    → Cut error a (unwrap_or (slice_get (q ∷ r ∷ rs) n) d) (passed ++ q ∷ r ∷ rs) (drop n (r ∷ rs))
cut-next error a d passed q r rs m n e cut =
    let next : n ≡ suc m = omega arith in
    rw next record { xs = cut.xs; split = sym (append_assoc passed (q ∷ []) (r ∷ rs)) ∙ cut.split; near = cut.near }

-- what is to be shown of q and the points after it
abbrev Cuts : ℕ → ℕ × ℕ → ℕ × ℕ → ℕ × ℕ → List (ℕ × ℕ) → Type 0
Cuts error a d q qs = (passed : List (ℕ × ℕ)) → list_all (is_near error a q) passed ≡ true
    → Cut error a (unwrap_or (slice_get (q ∷ qs) (reach error a (passed ++ q ∷ []) qs)) d) (passed ++ q ∷ qs) (drop (reach error a (passed ++ q ∷ []) qs) qs)

cut-at : (error : ℕ) (a d q r : ℕ × ℕ) (rs : List (ℕ × ℕ)) → Cuts error a d r rs → (passed : List (ℕ × ℕ)) → list_all (is_near error a q) passed ≡ true
    → (t : Bool) → list_all (is_near error a r) (passed ++ q ∷ []) ≡ t
    → Cut error a (unwrap_or (slice_get (q ∷ r ∷ rs) (reach error a (passed ++ q ∷ []) (r ∷ rs))) d) (passed ++ q ∷ r ∷ rs) (drop (reach error a (passed ++ q ∷ []) (r ∷ rs)) (r ∷ rs))
cut-at error a d q r rs ih passed near true e =
    cut-next error a d passed q r rs (reach error a ((passed ++ q ∷ []) ++ r ∷ []) rs) (reach error a (passed ++ q ∷ []) (r ∷ rs)) (rw e refl)
    (ih (passed ++ q ∷ []) e)
cut-at error a d q r rs ih passed near false e = rw e record { xs = passed; split = refl; near = near }

cuts : (error : ℕ) (a d q : ℕ × ℕ) (qs : List (ℕ × ℕ)) → Cuts error a d q qs
cuts error a d q [] = λ passed near. record { xs = passed; split = refl; near = near }
cuts error a d q (r ∷ rs) = λ passed near. cut-at error a d q r rs (cuts error a d r rs) passed near (list_all (is_near error a r) (passed ++ q ∷ [])) refl

-- the segment from a, whose other points are p and os: its end is b, and `rest` comes after b
knots-next : (turns error : ℕ) (a p : ℕ × ℕ) (os : List (ℕ × ℕ)) (m : ℕ) → reach error a (p ∷ []) os ≡ m
    → knots_after error (suc turns) a (p ∷ os)
    ≡ unwrap_or (slice_get (p ∷ os) m) p ∷ knots_after error turns (unwrap_or (slice_get (p ∷ os) m) p) (drop m os)
knots-next turns error a p os m e =
    let n : reach error a [] (p ∷ os) ≡ suc m = omega (arith, e) in
    let one : suc m - 1 ≡ m = omega arith in
    ap (λ n. unwrap_or (slice_get (p ∷ os) (n - 1)) p ∷ knots_after error turns (unwrap_or (slice_get (p ∷ os) (n - 1)) p) (drop n (p ∷ os))) n
    ∙ ap (λ i. unwrap_or (slice_get (p ∷ os) i) p ∷ knots_after error turns (unwrap_or (slice_get (p ∷ os) i) p) (drop m os)) one

-- the knots after a are past it
knots-past : (turns error : ℕ) (a : ℕ × ℕ) (os : List (ℕ × ℕ)) → Climbs (a ∷ os) → AllByRecursion (IsPast a) (knots_after error turns a os)
knots-past zero error a os up = tt
knots-past (suc turns) error a [] up = tt
knots-past (suc turns) error a (p ∷ os) up =
    let m = reach error a (p ∷ []) os in
    let b = unwrap_or (slice_get (p ∷ os) m) p in
    let cut : Cut error a b (p ∷ os) (drop m os) = cuts error a p p os [] refl in
    let whole : Climbs (a ∷ (cut.xs ++ b ∷ drop m os)) = subst (λ xs. Climbs (a ∷ xs)) cut.split up in
    let past : IsPast a b = all-mid (IsPast a) cut.xs b (drop m os) whole.0 in
    subst (AllByRecursion (IsPast a)) (sym (knots-next turns error a p os m refl)) (
      past,
      each-weaker (IsPast b) (IsPast a) (λ x h. past-trans a b x past h) (knots_after error turns b (drop m os))
          (knots-past turns error b (drop m os) (climbs-back cut.xs (b ∷ drop m os) whole.1)),
    )

covered-first : (key : ℕ) (b : ℕ × ℕ) (ks : List (ℕ × ℕ)) → AllByRecursion (IsPast b) ks → is_covered ks key ≡ true → b.0 ≤ key
covered-first key b [] all covered = absurd (cc covered)
covered-first key b (k ∷ ks) all covered = omega (arith, all.0.0, leb-true k.0 key covered)

covered-from : (key d : ℕ) (b : ℕ × ℕ) (ks : List (ℕ × ℕ)) → AllByRecursion (IsPast b) ks → is_covered (drop d (b ∷ ks)) key ≡ true → b.0 ≤ key
covered-from key zero b ks all covered = leb-true b.0 key covered
covered-from key (suc d) b ks all covered = covered-first key b (drop d ks) (each-drop (IsPast b) d ks all) covered

uncovered-nil : (d key : ℕ) → is_covered (drop d []) key ≡ true → ⊥
uncovered-nil zero key h = cc h
uncovered-nil (suc d) key h = cc h

-- knots without the first d of them, against points
abbrev Against : ℕ → ℕ → List (ℕ × ℕ) → List (ℕ × ℕ) → Type 0
Against error key knots points = (d : ℕ) → is_covered (drop d knots) key ≡ true → Window error key (estimate (drop d knots) key) points

-- the knots from a on
abbrev Windows : ℕ → ℕ → ℕ → ℕ × ℕ → List (ℕ × ℕ) → Type 0
Windows turns error key a os = Against error key (a ∷ knots_after error turns a os) (a ∷ os)

windows-none : (error key d : ℕ) (a : ℕ × ℕ) → is_covered (drop d (a ∷ [])) key ≡ true → Window error key (estimate (drop d (a ∷ [])) key) (a ∷ [])
windows-none error key zero a covered = λ le. refl
windows-none error key (suc d) a covered = absurd (uncovered-nil d key covered)

-- a segment from a to b, and then the knots from b on
windows-next : (turns error key : ℕ) (a b : ℕ × ℕ) (xs rest : List (ℕ × ℕ)) → Climbs (a ∷ (xs ++ b ∷ rest)) → list_all (is_near error a b) xs ≡ true
    → Windows turns error key b rest → Against error key (a ∷ b ∷ knots_after error turns b rest) (a ∷ (xs ++ b ∷ rest))
windows-next turns error key a b xs rest up near later (suc d) covered =
    let le = covered-from key d b (knots_after error turns b rest) (knots-past turns error b rest (climbs-back xs (b ∷ rest) up.1)) covered in
    over error key (estimate (drop d (b ∷ knots_after error turns b rest)) key) b a xs rest le up (later d covered)
windows-next turns error key a b xs rest up near later zero covered = ⊎_elim
    (λ lt.
    let first : ltb key b.0 ≡ true = lt-ltb _ _ lt in
    rw first (within error key a b a xs rest (all-mid (IsPast a) xs b rest up.0) lt (each-front (IsPast a) xs (b ∷ rest) up.0) near
    (λ le. omega arith) (climbs-back xs (b ∷ rest) up.1)))
    (λ le.
    let other : ltb key b.0 ≡ false = le-ltb _ _ le in
    rw other (over error key (estimate (b ∷ knots_after error turns b rest) key) b a xs rest le up (later 0 (le-leb _ _ le))))
    (cases_lt key b.0)

windows : (turns error key : ℕ) (a : ℕ × ℕ) (os : List (ℕ × ℕ)) → Climbs (a ∷ os) → length os ≤ turns → Windows turns error key a os
windows zero error key a [] up le = λ d covered. windows-none error key d a covered
windows zero error key a (p ∷ os) up le = λ d covered. absurd (omega (arith, le))
windows (suc turns) error key a [] up le = λ d covered. windows-none error key d a covered
windows (suc turns) error key a (p ∷ os) up le =
    let m = reach error a (p ∷ []) os in
    let b = unwrap_or (slice_get (p ∷ os) m) p in
    let cut : Cut error a b (p ∷ os) (drop m os) = cuts error a p p os [] refl in
    let whole : Climbs (a ∷ (cut.xs ++ b ∷ drop m os)) = subst (λ xs. Climbs (a ∷ xs)) cut.split up in
    let later : Windows turns error key b (drop m os)
    = windows turns error key b (drop m os) (climbs-back cut.xs (b ∷ drop m os) whole.1) (omega (arith, le, length-drop m os)) in
    let next : Against error key (a ∷ b ∷ knots_after error turns b (drop m os)) (a ∷ p ∷ os)
    = subst (λ ps. Against error key (a ∷ b ∷ knots_after error turns b (drop m os)) (a ∷ ps)) (sym cut.split)
    (windows-next turns error key a b cut.xs (drop m os) whole cut.near later) in
    subst (λ ks. Against error key (a ∷ ks) (a ∷ p ∷ os)) (sym (knots-next turns error a p os m refl)) next

-- in the words of the contract
window-low : (error key page : ℕ) (ps : List (ℕ × ℕ)) → Climbs ps → Window error key page ps → (i : ℕ) → i < length ps
    → (point_at ps i).0 ≤ key → (point_at ps i).1 ≤ page + error
window-low error key page [] up w i lt le = absurd (omega (arith, lt))
window-low error key page (p ∷ []) up w zero lt le = let same : page ≡ p.1 = w le in omega (arith, same)
window-low error key page (p ∷ []) up w (suc i) lt le = absurd (omega (arith, lt))
window-low error key page (p ∷ q ∷ ps) up w (suc i) lt le = window-low error key page (q ∷ ps) up.1 w.1 i (omega arith) le
window-low error key page (p ∷ q ∷ ps) up w zero lt le = ⊎_elim
    (λ before. (w.0 le before).0)
    (λ after. let later = window-low error key page (q ∷ ps) up.1 w.1 0 (omega arith) after in omega (arith, later, up.0.0.1))
    (cases_lt key q.0)

-- pages rise too
page-rises : (p : ℕ × ℕ) (ps : List (ℕ × ℕ)) → Climbs (p ∷ ps) → (i : ℕ) → i < length (p ∷ ps) → p.1 ≤ (point_at (p ∷ ps) i).1
page-rises p ps up zero lt = omega arith
page-rises p [] up (suc i) lt = absurd (omega (arith, lt))
page-rises p (q ∷ ps) up (suc i) lt = let later = page-rises q ps up.1 i (omega arith) in omega (arith, later, up.0.0.1)

window-high : (error key page : ℕ) (p : ℕ × ℕ) (ps : List (ℕ × ℕ)) → Climbs (p ∷ ps) → p.0 ≤ key → Window error key page (p ∷ ps) → (i : ℕ) → i < length (p ∷ ps)
    → key < (point_at (p ∷ ps) i).0 → page ≤ (point_at (p ∷ ps) i).1 + error
window-high error key page p ps up le w zero lt after = absurd (omega (arith, le, after))
window-high error key page p [] up le w (suc i) lt after = absurd (omega (arith, lt))
window-high error key page p (q ∷ ps) up le w (suc i) lt after = ⊎_elim
    (λ before. let near = (w.0 le before).1 in let rising = page-rises q ps up.1 i (omega arith) in omega (arith, near, rising))
    (λ from. window-high error key page q ps up.1 from w.1 i (omega arith) after)
    (cases_lt key q.0)

last_of-after : (p q : ℕ × ℕ) (ps : List (ℕ × ℕ)) → last_of (p ∷ q ∷ ps) ≡ last_of (q ∷ ps)
last_of-after p q ps =
    let two : length (p ∷ q ∷ ps) - 1 ≡ suc (length ps) = omega arith in
    let one : length (q ∷ ps) - 1 ≡ length ps = omega arith in
    rw (two, one) refl

window-end : (error key page : ℕ) (ps : List (ℕ × ℕ)) → Window error key page ps → IfSome (last_of ps) (λ end. end.0 ≤ key → page ≡ end.1)
window-end error key page [] w = tt
window-end error key page (p ∷ []) w = w
window-end error key page (p ∷ q ∷ ps) w = rw (last_of-after p q ps) (window-end error key page (q ∷ ps) w.1)

-- where a key is covered by the knots that are retained, their estimate is in the window
pub in-window : (limit error key : ℕ) (points : List (ℕ × ℕ)) → Rises points → is_covered (retained limit error points) key ≡ true
    → InWindow error points key (estimate (retained limit error points) key)
in-window limit error key [] up covered = record { from = λ i lt. absurd (omega (arith, lt)); to = λ i lt. absurd (omega (arith, lt)); end = tt }
in-window limit error key (a ∷ ps) up covered =
    let climb = climbs (a ∷ ps) up in
    let d = length (knots_of error (a ∷ ps)) - limit in
    let w = windows (length ps) error key a ps climb (omega arith) d covered in
    let page = estimate (retained limit error (a ∷ ps)) key in
    let least = covered-from key d a (knots_after error (length ps) a ps) (knots-past (length ps) error a ps climb) covered in
    record {
      from = window-low error key page (a ∷ ps) climb w;
      to = window-high error key page a ps climb least w;
      end = window-end error key page (a ∷ ps) w;
    }

-- the same of a spline, where a knot is the segment of the key
pub spline-window : {KNOTS : ℕ} (error key i page : ℕ) (points : List (ℕ × ℕ)) (s : Spline KNOTS) → Rises (kept s) → IsSegment (kept s) key i
    → page ≡ estimate (kept s) key → SplineOf error points s → InWindow error points key page
spline-window {KNOTS} error key i page points s up segment is h =
    let covered : is_covered (retained KNOTS error points) key ≡ true = rw h.knots at (segment-covered (kept s) key i up segment) in
    rw (is, h.knots) (in-window KNOTS error key points h.rises covered)
