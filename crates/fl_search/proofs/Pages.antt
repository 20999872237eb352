-- Ranges of pages whose first keys are told.
use Rattle.std.proofs.Common.{ℕ, zero, suc, ◌≡◌, ◌<◌, ◌≤◌, ◌+◌, ◌-◌, ◌*◌, ◌^◌, max, true, false, refl, ap, ◌∙◌, arith, add-zero, Option, Some, None, ⊎_elim}
use Rattle.std.specs.Prelude.{IfSome}
use Rattle.std.proofs.lemmas.Bool.{cases_lt, le-leb, lt-leb}
use Rattle.fl_base.specs.Bits.{bits}
use Rattle.fl_search.specs.Search.{FailsAmong, FailsBelow, RoseSome, starts_by, IsPageOf, looked_at, Ascends, voids_from, voids_in, IsLastAt}
use Rattle.fl_base.proofs.BitsGrow.{bits-le, bits-half, has-digit}

-- no page of a range starts by the key; all pages of a range are void
abbrev pub NoneStarts : (ℕ → Option ℕ) → ℕ → ℕ → ℕ → Type 0
NoneStarts first key from to = (n : ℕ) → from ≤ n → n < to → starts_by first key n ≡ false

abbrev pub AreVoid : (ℕ → Option ℕ) → ℕ → ℕ → Type 0
AreVoid first from to = (n : ℕ) → from ≤ n → n < to → first n ≡ None

pub starts-void : (first : ℕ → Option ℕ) (key n : ℕ) → first n ≡ None → starts_by first key n ≡ false
starts-void first key n e = rw e refl

pub starts-low : (first : ℕ → Option ℕ) (key n x : ℕ) → first n ≡ Some x → x ≤ key → starts_by first key n ≡ true
starts-low first key n x e le = rw e (le-leb _ _ le)

pub starts-high : (first : ℕ → Option ℕ) (key n x : ℕ) → first n ≡ Some x → key < x → starts_by first key n ≡ false
starts-high first key n x e lt = rw e (lt-leb _ _ lt)

-- a call failed for a page, and no page behind it starts by the key
pub failed-below : (Tells : (ℕ → Option ℕ) → Type 0) (Fails : ℕ → Type 0) (oldest end key number : ℕ) → Fails number → oldest ≤ number → number < end → ((first : ℕ → Option ℕ) → Tells first → NoneStarts first key (number + 1) end) → FailsBelow Tells Fails oldest end key
failed-below Tells Fails oldest end key number fails from before none = record {
  number = number;
  within = (from, before);
  fails = fails;
  later = λ first tells n after within. none first tells n (omega (arith, after)) within;
}

pub failed-among : (Fails : ℕ → Type 0) (oldest end number : ℕ) → Fails number → oldest ≤ number → number < end → FailsAmong Fails oldest end
failed-among Fails oldest end number fails from before = record { number = number; within = (from, before); fails = fails }

-- one more page below
pub none-more : (first : ℕ → Option ℕ) (key number to : ℕ) → NoneStarts first key (number + 1) to → starts_by first key number ≡ false → NoneStarts first key number to
none-more first key number to none here n from before = ⊎_elim
    (λ less. none n (omega arith) before)
    (λ le. let same : n ≡ number = omega arith in rw same here)
    (cases_lt number n)

pub void-more : (first : ℕ → Option ℕ) (number to : ℕ) → AreVoid first (number + 1) to → first number ≡ None → AreVoid first number to
void-more first number to voids here n from before = ⊎_elim
    (λ less. voids n (omega arith) before)
    (λ le. let same : n ≡ number = omega arith in rw same here)
    (cases_lt number n)

-- the page that is answered is below those that were looked at
pub looked-from : (first : ℕ → Option ℕ) (oldest end key number : ℕ) (page : Option ℕ) → IsPageOf first oldest end key page
    → NoneStarts first key (number + 1) end → oldest ≤ number → end - number ≤ looked_at oldest end page
looked-from first oldest end key number None is none le = omega arith
looked-from first oldest end key number (Some page) is none le = ⊎_elim
    (λ less. absurd (cc (is.here, none page (omega arith) is.before)))
    (λ below. omega arith)
    (cases_lt number page)

pub looked-all : (first : ℕ → Option ℕ) (oldest end key number : ℕ) (page : Option ℕ) → IsPageOf first oldest end key page
    → NoneStarts first key number end → number ≤ oldest → end - oldest ≤ looked_at oldest end page
looked-all first oldest end key number None is none le = omega arith
looked-all first oldest end key number (Some page) is none le = absurd (cc (is.here, none page (omega (arith, is.from)) is.before))

-- the count of void pages over a range that is cut
voids-cut : (first : ℕ → Option ℕ) (from m n : ℕ) → voids_from first from (m + n) ≡ voids_from first from m + voids_from first (from + m) n
voids-cut first from zero n =
    let all : 0 + n ≡ n = omega arith in
    rw (all, add-zero from) (omega arith)
voids-cut first from (suc m) n =
    let shifted : from + 1 + m ≡ from + suc m = omega arith in
    let later : voids_from first (from + 1) (m + n) ≡ voids_from first (from + 1) m + voids_from first (from + suc m) n = voids-cut first (from + 1) m n ∙ ap (λ k. voids_from first (from + 1) m + voids_from first k n) shifted in
    let next : suc m + n ≡ suc (m + n) = omega arith in
    ap (λ k. voids_from first from k) next ∙ omega (arith, later)

pub voids-split : (first : ℕ → Option ℕ) (low middle high : ℕ) → low ≤ middle → middle ≤ high → voids_in first low high ≡ voids_in first low middle + voids_in first middle high
voids-split first low middle high le le' =
    let parts : high - low ≡ (middle - low) + (high - middle) = omega arith in
    let seam : low + (middle - low) ≡ middle = omega arith in
    ap (λ k. voids_from first low k) parts ∙ voids-cut first low (middle - low) (high - middle)
    ∙ ap (λ k. voids_from first low (middle - low) + voids_from first k (high - middle)) seam

voids-count : (first : ℕ → Option ℕ) (from n : ℕ) → AreVoid first from (from + n) → voids_from first from n ≡ n
voids-count first from zero voids = refl
voids-count first from (suc n) voids =
    let later : voids_from first (from + 1) n ≡ n = voids-count first (from + 1) n (λ k start end. voids k (omega arith) (omega arith)) in
    rw (voids from (omega arith) (omega arith)) (omega (arith, later))

pub voids-all : (first : ℕ → Option ℕ) (low high : ℕ) → low ≤ high → AreVoid first low high → voids_in first low high ≡ high - low
voids-all first low high le voids = voids-count first low (high - low) (λ n from before. voids n from (omega arith))

-- the void pages at the end of a range
pub voids-end : (first : ℕ → Option ℕ) (low middle high : ℕ) → low ≤ middle → middle ≤ high → AreVoid first middle high → high - middle ≤ voids_in first low high
voids-end first low middle high le le' voids = omega (arith, voids-split first low middle high le le', voids-all first middle high le' voids)

-- the pages from low to before high are bisected, and the first m - low of them were probed; p is the last that isn't void
pub step-none : (first : ℕ → Option ℕ) (low m high : ℕ) → low ≤ m → m ≤ high → high < 2 ^ 64 → AreVoid first low m
    → bits (high - m) + voids_in first m high + (m - low) ≤ bits (high - low) + voids_in first low high
step-none first low m high le le' fits voids =
    omega (arith, voids-split first low m high le le', voids-all first low m le voids, bits-le (high - m) (high - low) (omega arith) (omega arith))

pub step-low : (first : ℕ → Option ℕ) (low p x m high : ℕ) → m ≤ high → high < 2 ^ 64 → low < high → 2 * (high - m) ≤ high - low → IsLastAt first low m p x
    → bits (high - m) + voids_in first m high + (m - p) ≤ bits (high - low) + voids_in first low high
step-low first low p x m high le fits lt half last =
    omega (
      arith,
      voids-split first low m high (omega (arith, last.from, last.before)) le,
      voids-end first low (p + 1) m (omega (arith, last.from)) (omega (arith, last.before)) (λ n from before. last.later n (omega arith) before),
      bits-half (high - m) (high - low) half (omega arith) (omega arith),
    )

pub step-high : (first : ℕ → Option ℕ) (low p x m high : ℕ) → m ≤ high → high < 2 ^ 64 → low < high → 2 * (p - low) ≤ high - low → IsLastAt first low m p x
    → bits (p - low) + voids_in first low p + (m - p) ≤ bits (high - low) + voids_in first low high
step-high first low p x m high le fits lt half last =
    omega (
      arith,
      voids-split first low m high (omega (arith, last.from, last.before)) le,
      voids-split first low p m last.from (omega (arith, last.before)),
      voids-end first p (p + 1) m (omega arith) (omega (arith, last.before)) (λ n from before. last.later n (omega arith) before),
      bits-half (p - low) (high - low) half (omega arith) (omega arith),
    )

pub step-fault : (first : ℕ → Option ℕ) (low m high : ℕ) → low ≤ m → m ≤ high → low < high → high < 2 ^ 64
    → voids_in first low m + 1 ≤ bits (high - low) + voids_in first low high
step-fault first low m high le le' lt fits = omega (arith, voids-split first low m high le le', has-digit (high - low) (omega arith) (omega arith))

-- the page that is found so far
pub found-none : (first : ℕ → Option ℕ) (oldest low m key : ℕ) (page : Option ℕ) → low ≤ m → IsPageOf first oldest low key page → AreVoid first low m → IsPageOf first oldest m key page
found-none first oldest low m key None le is voids = λ n from before. ⊎_elim
    (λ less. is n from less)
    (λ after. starts-void first key n (voids n after before))
    (cases_lt n low)
found-none first oldest low m key (Some page) le is voids = record {
  from = is.from;
  before = omega (arith, is.before);
  here = is.here;
  later = λ n after before. ⊎_elim
      (λ less. is.later n after less)
      (λ above. starts-void first key n (voids n above before))
      (cases_lt n low);
}

pub found-some : (first : ℕ → Option ℕ) (oldest low m key p x : ℕ) → oldest ≤ low → IsLastAt first low m p x → x ≤ key → IsPageOf first oldest m key (Some p)
found-some first oldest low m key p x le last below = record {
  from = omega (arith, last.from);
  before = last.before;
  here = starts-low first key p x last.here below;
  later = λ n after before. starts-void first key n (last.later n after before);
}

-- no page from one whose first key is above the key on starts by it
after-key : (first : ℕ → Option ℕ) (key n x : ℕ) (y : Option ℕ) → first n ≡ y → key < x → ((z : ℕ) → y ≡ Some z → x < z) → starts_by first key n ≡ false
after-key first key n x None e lt more = starts-void first key n e
after-key first key n x (Some z) e lt more = starts-high first key n z e (let above = more z refl in omega (arith, above))

pub none-from : (first : ℕ → Option ℕ) (oldest low m end key p x : ℕ) → oldest ≤ low → Ascends first oldest end → IsLastAt first low m p x → key < x → NoneStarts first key p end
none-from first oldest low m end key p x le up last lt n from before = ⊎_elim
    (λ after. after-key first key n x (first n) refl lt (λ z e. up p n x z (omega (arith, last.from)) after before last.here e))
    (λ below. let same : n ≡ p = omega arith in rw same (starts-high first key p x last.here lt))
    (cases_lt p n)

-- the page that is found in the end
pub found-end : (first : ℕ → Option ℕ) (oldest low high end key : ℕ) (page : Option ℕ) → high ≤ low → low ≤ max oldest end → IsPageOf first oldest low key page
    → NoneStarts first key high end → IsPageOf first oldest end key page
found-end first oldest low high end key None met le is none = λ n from before. ⊎_elim
    (λ less. is n from less)
    (λ after. none n (omega arith) before)
    (cases_lt n low)
found-end first oldest low high end key (Some page) met le is none = record {
  from = is.from;
  before = omega (arith, is.from, is.before);
  here = is.here;
  later = λ n after before. ⊎_elim
      (λ less. is.later n after less)
      (λ above. none n (omega arith) before)
      (cases_lt n low);
}

-- counts that never fall
pub grows-then : (a b c : ℕ) → (b < 2 ^ 64 - 1 → a ≤ b) → (c < 2 ^ 64 - 1 → b ≤ c) → c < 2 ^ 64 - 1 → a ≤ c
grows-then a b c first second small =
    let up = second small in
    let less : b < 2 ^ 64 - 1 = omega (arith, small, up) in
    omega (arith, up, first less)

pub rose-after : (a b c : ℕ) → (b < 2 ^ 64 - 1 → a ≤ b) → RoseSome b c → RoseSome a c
rose-after a b c first second small =
    let up = second small in
    let less : b < 2 ^ 64 - 1 = omega (arith, small, up) in
    omega (arith, up, first less)

pub rose-before : (a b c : ℕ) → RoseSome a b → (c < 2 ^ 64 - 1 → b ≤ c) → RoseSome a c
rose-before a b c first second small =
    let up = second small in
    let less : b < 2 ^ 64 - 1 = omega (arith, small, up) in
    omega (arith, up, first less)

pub some-later : (a b c : ℕ) (found : Option ℕ) → IfSome found (λ page. RoseSome a b) → (c < 2 ^ 64 - 1 → b ≤ c) → IfSome found (λ page. RoseSome a c)
some-later a b c None first second = tt
some-later a b c (Some page) first second = rose-before a b c first second

pub found-starts : (first : ℕ → Option ℕ) (oldest low key : ℕ) (page : Option ℕ) → IsPageOf first oldest low key page → IfSome page (λ n. starts_by first key n ≡ true)
found-starts first oldest low key None is = tt
found-starts first oldest low key (Some page) is = is.here
