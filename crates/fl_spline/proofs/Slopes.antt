-- Fractions against each other: the laws by which a corridor of two slopes stands for all of its points.
use Rattle.std.proofs.Common.{ℕ, ◌≡◌, ◌<◌, ◌≤◌, ◌+◌, ◌-◌, ◌*◌, List, [], ◌∷◌, ◌++◌, Bool, true, false, leb, refl, ap, ◌∙◌, arith, ⊎_elim}
use Rattle.std.specs.Prelude.{nat_le, ◌&&◌, if◌then◌else◌}
use Rattle.std.specs.List.{list_all}
use Rattle.std.proofs.Math.Nat.{mul-le-mul_left, mul_comm, le_of_mul-le-mul_left}
use Rattle.std.proofs.lemmas.Bool.{cases_lt}
use Rattle.std.proofs.lemmas.Bool.Decides.{nat_tests}
use borrow.Author.Tests.{leb-true, le-leb, lt-leb}
use Rattle.fl_spline.specs.declared.corridor.Slope.{Slope}
use Rattle.fl_spline.specs.declared.corridor.Corridor.{Corridor}
use Rattle.fl_model.specs.Spline.{is_near}
use Rattle.fl_spline.specs.Corridor.{Covers, passes, is_below_at, is_above_at, is_below, is_above, lesser, greater}

-- a / b <= c / d and c / d <= e / f, where 0 < d
pub le-through : (a b c d e f : ℕ) → 0 < d → a * d ≤ c * b → c * f ≤ e * d → a * f ≤ e * b
le-through a b c d e f positive h k =
    let scaled : d * (a * f) ≤ d * (e * b) = omega (arith, mul-le-mul_left f h, mul-le-mul_left b k) in
    le_of_mul-le-mul_left scaled positive

-- where one test implies another, both together are the first
pub and-first : (p q : Bool) → (p ≡ true → q ≡ true) → (p && q) ≡ p
and-first true q h = h refl
and-first false q h = refl

pub and-second : (p q : Bool) → (q ≡ true → p ≡ true) → (p && q) ≡ q
and-second true q h = refl
and-second false true h = h refl
and-second false false h = refl

-- a slope with a rise or a run that is no steeper than one with a run has a run
pub runs : (s t : Slope) → 0 < s.rise + s.run → 0 < t.run → s.rise * t.run ≤ t.rise * s.run → 0 < s.run
runs s t some positive le = ⊎_elim (λ lt. lt) (λ none.
    let zero_run : s.run ≡ 0 = omega arith in
    let rise : 1 * t.run ≤ s.rise * t.run = omega (arith, mul-le-mul_left {m = 1} {n = s.rise} t.run (omega arith)) in
    absurd (omega (arith, rise, ap (λ n. t.rise * n) zero_run))) (cases_lt 0 s.run)

-- a line that is below two slopes is below the lesser
pub below-lesser : (dx dy : ℕ) (s t : Slope) → 0 < s.rise + s.run → 0 < t.run
    → (is_below dx dy s && is_below dx dy t) ≡ is_below dx dy (lesser s t)
below-lesser dx dy s t some positive =
    ⊎_elim
    (λ lt. let e : leb (s.rise * t.run) (t.rise * s.run) ≡ false = lt-leb _ _ lt in
    rw e (and-second (is_below dx dy s) (is_below dx dy t) (λ h.
    le-leb _ _ (le-through dy dx t.rise t.run s.rise s.run positive (leb-true _ _ h) (omega arith)))))
    (λ le. let e : leb (s.rise * t.run) (t.rise * s.run) ≡ true = le-leb _ _ le in
    rw e (and-first (is_below dx dy s) (is_below dx dy t) (λ h.
    le-leb _ _ (le-through dy dx s.rise s.run t.rise t.run (runs s t some positive le) (leb-true _ _ h) le))))
    (cases_lt (t.rise * s.run) (s.rise * t.run))

-- a line that is above two slopes is above the greater
pub above-greater : (dx dy : ℕ) (s t : Slope) → 0 < s.run → 0 < t.run
    → (is_above dx dy s && is_above dx dy t) ≡ is_above dx dy (greater s t)
above-greater dx dy s t some positive =
    ⊎_elim
    (λ lt. let e : leb (t.rise * s.run) (s.rise * t.run) ≡ false = lt-leb _ _ lt in
    rw e (and-second (is_above dx dy s) (is_above dx dy t) (λ h.
    le-leb _ _ (le-through s.rise s.run t.rise t.run dy dx positive (omega arith) (leb-true _ _ h)))))
    (λ le. let e : leb (t.rise * s.run) (s.rise * t.run) ≡ true = le-leb _ _ le in
    rw e (and-first (is_above dx dy s) (is_above dx dy t) (λ h.
    le-leb _ _ (le-through t.rise t.run s.rise s.run dy dx some le (leb-true _ _ h)))))
    (cases_lt (s.rise * t.run) (t.rise * s.run))

-- products that are apart by at most e
pub apart-parts : (m n e : ℕ) → leb ((m - n) + (n - m)) e ≡ (leb m (n + e) && leb (n - e) m)
apart-parts m n e = grind (arith, nat_tests)

-- a test of all that is two tests of all
pub and-swap : (a b c d : Bool) → ((a && b) && (c && d)) ≡ ((a && c) && (b && d))
and-swap true true c d = refl
and-swap true false true d = refl
and-swap true false false d = refl
and-swap false b c d = refl

pub list_all-both : {X : Type 0} (p q r : X → Bool) (xs : List X) → ((x : X) → p x ≡ (q x && r x)) → list_all p xs ≡ (list_all q xs && list_all r xs)
list_all-both p q r [] h = refl
list_all-both p q r (x ∷ xs) h =
    rw (h x, list_all-both p q r xs h) (and-swap (q x) (r x) (list_all q xs) (list_all r xs))

-- `*` over a difference that stops at 0
pub mul-minus : (m n k : ℕ) → (m - n) * k ≡ m * k - n * k
mul-minus m n k = ⊎_elim
    (λ lt. let h : m ≤ n = omega arith in
    let z : m - n ≡ 0 = omega arith in
    rw z (omega (arith, mul-le-mul_left k h)))
    (λ le. let e : m ≡ (m - n) + n = omega arith in
    omega (arith, ap (λ x. x * k) e))
    (cases_lt m n)

-- near at a point is below and above at it
pub near-parts : (error : ℕ) (a b i : ℕ × ℕ) →
    is_near error a b i ≡ (is_below_at error a (b.0 - a.0) (b.1 - a.1) i && is_above_at error a (b.0 - a.0) (b.1 - a.1) i)
near-parts error a b i =
    let split = apart-parts ((i.0 - a.0) * (b.1 - a.1)) ((i.1 - a.1) * (b.0 - a.0)) (error * (b.0 - a.0)) in
    let turn : (b.1 - a.1) * (i.0 - a.0) ≡ (i.0 - a.0) * (b.1 - a.1) = mul_comm (b.1 - a.1) (i.0 - a.0) in
    let high : (i.1 - a.1 + error) * (b.0 - a.0) ≡ (i.1 - a.1) * (b.0 - a.0) + error * (b.0 - a.0) = omega arith in
    let low : (i.1 - a.1 - error) * (b.0 - a.0) ≡ (i.1 - a.1) * (b.0 - a.0) - error * (b.0 - a.0) = mul-minus (i.1 - a.1) error (b.0 - a.0) in
    rw (turn, high, low) split

-- a covered line is near exactly where it lies between the slopes
pub near-covers : (error : ℕ) (c : Corridor) (points : List (ℕ × ℕ)) (b : ℕ × ℕ) → c.base.0 < b.0 → Covers error c points
    → passes error c.base points b ≡ (is_below (b.0 - c.base.0) (b.1 - c.base.1) c.upper && is_above (b.0 - c.base.0) (b.1 - c.base.1) c.lower)
near-covers error c points b lt k =
    let dx = b.0 - c.base.0 in
    let dy = b.1 - c.base.1 in
    let positive : 0 < b.0 - c.base.0 = omega arith in
    list_all-both (is_near error c.base b) (is_below_at error c.base dx dy) (is_above_at error c.base dx dy) points (near-parts error c.base b)
    ∙ rw (k.upper dx dy positive, k.lower dx dy positive) refl

-- a test of the last one too
pub list_all-push : {X : Type 0} (p : X → Bool) (xs : List X) (x : X) → list_all p (xs ++ x ∷ []) ≡ (list_all p xs && p x)
list_all-push p [] x = elim (p x) as (λ b. (b && true) ≡ b) [ true ↦ refl | false ↦ refl ]
list_all-push p (y ∷ ys) x = rw (list_all-push p ys x) (elim (p y) as (λ b. (b && (list_all p ys && p x)) ≡ ((b && list_all p ys) && p x)) [ true ↦ refl | false ↦ refl ])

-- what holds of two slopes holds of the one that is chosen
chosen : (P : Slope → Type 0) (b : Bool) (s t : Slope) → P s → P t → P (if b then s else t)
chosen P true s t ps pt = ps
chosen P false s t ps pt = pt

-- one more point
pub Covers-more : (error : ℕ) (c : Corridor) (points : List (ℕ × ℕ)) (p : ℕ × ℕ) (high low : Slope)
    → c.base.0 < p.0
    → high.rise ≡ p.1 - c.base.1 + error → high.run ≡ p.0 - c.base.0
    → low.rise ≡ p.1 - c.base.1 - error → low.run ≡ p.0 - c.base.0
    → Covers error c points
    → Covers error record { base = c.base; upper = lesser c.upper high; lower = greater c.lower low } (points ++ p ∷ [])
Covers-more error c points p high low lt hr hw lr lw k =
    let high_runs : 0 < high.run = omega arith in
    let low_runs : 0 < low.run = omega arith in
    record {
      some_upper = chosen (λ s. 0 < s.rise + s.run) (nat_le (c.upper.rise * high.run) (high.rise * c.upper.run)) c.upper high k.some_upper (omega arith);
      some_lower = chosen (λ s. 0 < s.run) (nat_le (low.rise * c.lower.run) (c.lower.rise * low.run)) c.lower low k.some_lower low_runs;
      upper = λ dx dy positive.
          list_all-push (is_below_at error c.base dx dy) points p
          ∙ rw (k.upper dx dy positive, ← hr, ← hw) (below-lesser dx dy c.upper high k.some_upper high_runs);
      lower = λ dx dy positive.
          list_all-push (is_above_at error c.base dx dy) points p
          ∙ rw (k.lower dx dy positive, ← lr, ← lw) (above-greater dx dy c.lower low k.some_lower low_runs);
    }

-- the slope to a point against the corridor
pub ruleset slopes = (near-covers, Covers-more)
