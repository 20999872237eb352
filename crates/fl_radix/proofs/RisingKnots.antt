-- Slots and bisections over knots that rise.
use Rattle.std.proofs.Common.{ℕ, zero, suc, ◌≡◌, ◌<◌, ◌≤◌, ◌+◌, ◌-◌, ◌/◌, ◌^◌, List, [], ◌∷◌, ◌++◌, length, get_or, drop, Bool, true, false, leb, cond, arith, refl, sym, ap, ◌∙◌, ⊎_elim, length-take, length-drop}
use Rattle.std.specs.Prelude.{slice_range, ◌==◌}
use Rattle.std.specs.List.{count_by}
use borrow.Author.Tests.{eq-eqb}
use Rattle.std.proofs.lemmas.List.Sums.{count_by-le-length}
use Rattle.std.proofs.lemmas.List.Recursion.{is_count_by}
use Rattle.std.proofs.lemmas.List.{get_or-take, get_or-drop}
use Rattle.std.proofs.lemmas.Bool.{cases_lt, eqb-true, le-leb, lt-leb, ne_eqb}
use Rattle.std.proofs.lemmas.Nat.{shr_below}
use Rattle.std.proofs.Math.ListN.{get_or-append}
use Rattle.std.proofs.Math.Seq.{get_or-append_seam}
use Rattle.std.proofs.Math.Pow.{shr_mono}
use Rattle.fl_base.specs.Bits.{bits}
use Rattle.fl_spline.specs.Points.{Rises}
use Rattle.fl_spline.specs.Segment.{IsSegment, point_at}
use Rattle.fl_spline.proofs.Lists.{rises-take, rises-drop}
use Rattle.fl_spline.proofs.Segments.{keys-rise}
use Rattle.fl_base.proofs.BitsGrow.{bits-le}
use Rattle.fl_radix.specs.Slots.{slot_of, first_key, last_key, knots_in_slot, IsStart, IsSlot, AreUpTo, AreBeyond}

pub none-are : {P : Type 0} (n : ℕ) (none : Bool) → none ≡ (n == 0) → none ≡ true → 0 < n → P
none-are n none is are some = let zero_is : n ≡ 0 = eqb-true n 0 (sym is ∙ are) in absurd (omega (arith, zero_is, some))

pub from-none : (n : ℕ) → 0 ≤ n
from-none n = omega arith

pub none-below : {P : Type 0} (j : ℕ) → j < 0 → P
none-below j less = absurd (omega (arith, less))

-- 63 bits are enough to leave out
pub few_bits : (width slots shift : ℕ) → width < 2 ^ 64 → 2 ≤ slots → slots ≤ width / 2 ^ shift → shift < 64 → shift + 1 < 64
few_bits width slots shift fits two wide lt = ⊎_elim
    (λ less. omega arith)
    (λ last.
    let same : shift ≡ 63 = omega arith in
    let all : width / 2 ^ 63 < 2 ^ 1 = shr_below width 1 63 fits in
    let here : slots ≤ width / 2 ^ 63 = rw same at wide in
    absurd (omega (arith, all, here)))
    (cases_lt shift 63)

-- later knots stand in no earlier slot
pub slot-rises : (ks : List (ℕ × ℕ)) (shift i j : ℕ) → Rises ks → i ≤ j → j < length ks
    → slot_of ks shift (point_at ks i).0 ≤ slot_of ks shift (point_at ks j).0
slot-rises ks shift i j up le within =
    let keys = keys-rise ks up i j (0, 0) le within in
    shr_mono shift (omega (arith, keys))

pub up-to-more : (ks : List (ℕ × ℕ)) (key m : ℕ) → Rises ks → m < length ks → (point_at ks m).0 ≤ key → AreUpTo ks key (m + 1)
up-to-more ks key m up within le j lt = let keys = keys-rise ks up j m (0, 0) (omega arith) within in omega (arith, keys, le)

pub beyond-from : (ks : List (ℕ × ℕ)) (key m : ℕ) → Rises ks → key < (point_at ks m).0 → AreBeyond ks key m
beyond-from ks key m up lt j from within = let keys = keys-rise ks up m j (0, 0) from within in omega (arith, keys, lt)

pub first-last : (ks : List (ℕ × ℕ)) → Rises ks → 0 < length ks → first_key ks ≤ last_key ks
first-last ks up some = keys-rise ks up 0 (length ks - 1) (0, 0) (omega arith) (omega arith)

-- two slots that follow one another have the knots of the first between their starts
pub slot-between : (ks : List (ℕ × ℕ)) (shift slot from to : ℕ) → IsStart ks shift slot from → IsStart ks shift (slot + 1) to → IsSlot ks shift slot from to
slot-between ks shift slot from to low high = record {
  order = ⊎_elim
      (λ less.
      let before = low.before to less in
      let after = high.after to (omega arith) (omega (arith, low.within)) in
      absurd (omega (arith, before, after)))
      (λ le. le)
      (cases_lt to from);
  within = high.within;
  before = low.before;
  inside = λ j start end. let after = low.after j start (omega (arith, high.within)) in let before = high.before j end in omega (arith, after, before);
  after = λ j start within. let after = high.after j start within in omega (arith, after);
}

-- and those of the last slot end with the knots
pub slot-last : (ks : List (ℕ × ℕ)) (shift slot from : ℕ) → Rises ks → 0 < length ks → IsStart ks shift slot from → slot_of ks shift (last_key ks) ≤ slot
    → IsSlot ks shift slot from (length ks)
slot-last ks shift slot from up some low last = record {
  order = low.within;
  within = omega arith;
  before = low.before;
  inside = λ j start end.
      let after = low.after j start end in
      let rising = slot-rises ks shift j (length ks - 1) up (omega arith) (omega arith) in
      omega (arith, after, rising);
  after = λ j start within. absurd (omega arith);
}

-- a key is above the keys of lower slots and below those of higher ones
above-slot : (first shift x key : ℕ) → (x - first) / 2 ^ shift < (key - first) / 2 ^ shift → x < key
above-slot first shift x key lt = ⊎_elim
    (λ less. less)
    (λ le. let rising : (key - first) / 2 ^ shift ≤ (x - first) / 2 ^ shift = shr_mono shift (omega arith) in absurd (omega (arith, lt, rising)))
    (cases_lt x key)

-- a knot of a range
range-at : (ks : List (ℕ × ℕ)) (from to j : ℕ) → from ≤ j → j < to → point_at (slice_range ks from to) (j - from) ≡ point_at ks j
range-at ks from to j start end =
    let inside : j - from < to - from = omega arith in
    let same : from + (j - from) ≡ j = omega arith in
    get_or-take (to - from) (drop from ks) (j - from) (0, 0) inside ∙ get_or-drop from ks (j - from) (0, 0) ∙ ap (λ i. point_at ks i) same

pub length-range : (ks : List (ℕ × ℕ)) (from to : ℕ) → to ≤ length ks → length (slice_range ks from to) ≡ to - from
length-range ks from to within = omega (arith, length-take (to - from) (drop from ks), length-drop from ks)

pub rises-range : (ks : List (ℕ × ℕ)) (from to : ℕ) → Rises ks → Rises (slice_range ks from to)
rises-range ks from to up = rises-take (to - from) (drop from ks) (rises-drop from ks up)

-- the segment of a key is found among the knots of its slot
pub segment-in-slot : (ks : List (ℕ × ℕ)) (shift key from to n : ℕ) → 0 < length ks → first_key ks ≤ key
    → IsSlot ks shift (slot_of ks shift key) from to → n ≤ to - from → AreUpTo (slice_range ks from to) key n → AreBeyond (slice_range ks from to) key n
    → (1 ≤ from + n) × IsSegment ks key (from + n - 1)
segment-in-slot ks shift key from to n some first s within before after =
    let far : (j : ℕ) → from + n ≤ j → j < length ks → key < (point_at ks j).0 = λ j start end. ⊎_elim
    (λ less.
    let place : j - from < length (slice_range ks from to) = omega (arith, length-range ks from to s.within) in
    rw (range-at ks from to j (omega arith) less) at (after (j - from) (omega arith) place))
    (λ le. above-slot (first_key ks) shift key (point_at ks j).0 (s.after j le end))
    (cases_lt j to) in
    let near : (j : ℕ) → j < from + n → (point_at ks j).0 ≤ key = λ j end. ⊎_elim
    (λ less. let lt = above-slot (first_key ks) shift (point_at ks j).0 key (s.before j less) in omega (arith, lt))
    (λ le. rw (range-at ks from to j le (omega arith)) at (before (j - from) (omega arith)))
    (cases_lt j from) in
    let one : 1 ≤ from + n = ⊎_elim
    (λ positive. omega arith)
    (λ zero. let wrong = far 0 (omega arith) some in absurd (omega (arith, wrong, first)))
    (cases_lt 0 (from + n)) in (
      one,
      record {
        within = omega (arith, s.within, s.order);
        at_most = near (from + n - 1) (omega arith);
        last = λ j start end. far j (omega arith) end;
      },
    )

-- how many knots pass a test
abbrev passing : (ℕ × ℕ → Bool) → List (ℕ × ℕ) → ℕ
passing p [] = 0
passing p (x ∷ xs) = cond (p x) (1 + passing p xs) (passing p xs)

passing-range : (p : ℕ × ℕ → Bool) (xs : List (ℕ × ℕ)) (from to : ℕ) → to ≤ length xs → ((j : ℕ) → from ≤ j → j < to → p (point_at xs j) ≡ true) → to - from ≤ passing p xs
passing-range p [] from to within passes = omega (arith, within)
passing-range p (x ∷ xs) from zero within passes = omega arith
passing-range p (x ∷ xs) zero (suc to) within passes =
    let later = passing-range p xs 0 to (omega (arith, within)) (λ j start end. passes (suc j) (omega arith) (omega arith)) in
    rw (passes 0 (omega arith) (omega arith)) (omega (arith, later))
passing-range p (x ∷ xs) (suc from) (suc to) within passes =
    let later = passing-range p xs from to (omega (arith, within)) (λ j start end. passes (suc j) (omega arith) (omega arith)) in
    elim (p x) as (λ b. suc to - suc from ≤ cond b (1 + passing p xs) (passing p xs)) [ true ↦ omega (arith, later) | false ↦ omega (arith, later) ]

-- the knots of a range that all pass a test are at most those that pass it
pub count-range : (p : ℕ × ℕ → Bool) (xs : List (ℕ × ℕ)) (from to : ℕ) → to ≤ length xs → ((j : ℕ) → from ≤ j → j < to → p (point_at xs j) ≡ true) → to - from ≤ count_by p xs
count-range p xs from to within passes =
    rw (← is_count_by (passing p) p refl (λ _ _. refl) xs) (passing-range p xs from to within passes)

passing-most : (p : ℕ × ℕ → Bool) (xs : List (ℕ × ℕ)) (from to : ℕ) → ((j : ℕ) → j < from → j < length xs → p (point_at xs j) ≡ false)
    → ((j : ℕ) → to ≤ j → j < length xs → p (point_at xs j) ≡ false) → passing p xs ≤ to - from
passing-most p [] from to before after = omega arith
passing-most p (x ∷ xs) from zero before after =
    let later = passing-most p xs 0 0 (λ j lt within. absurd (omega (arith, lt))) (λ j start within. after (suc j) (omega arith) (omega (arith, within))) in
    rw (after 0 (omega arith) (omega arith)) (omega (arith, later))
passing-most p (x ∷ xs) zero (suc to) before after =
    let later = passing-most p xs 0 to (λ j lt within. absurd (omega (arith, lt))) (λ j start within. after (suc j) (omega (arith, start)) (omega (arith, within))) in
    elim (p x) as (λ b. cond b (1 + passing p xs) (passing p xs) ≤ suc to - 0) [ true ↦ omega (arith, later) | false ↦ omega (arith, later) ]
passing-most p (x ∷ xs) (suc from) (suc to) before after =
    let later = passing-most p xs from to (λ j lt within. before (suc j) (omega (arith, lt)) (omega (arith, within))) (λ j start within. after (suc j) (omega (arith, start)) (omega (arith, within))) in
    rw (before 0 (omega arith) (omega arith)) (omega (arith, later))

-- where no knot outside of a range passes a test, at most those of the range do
count-most : (p : ℕ × ℕ → Bool) (xs : List (ℕ × ℕ)) (from to : ℕ) → ((j : ℕ) → j < from → j < length xs → p (point_at xs j) ≡ false)
    → ((j : ℕ) → to ≤ j → j < length xs → p (point_at xs j) ≡ false) → count_by p xs ≤ to - from
count-most p xs from to before after = rw (← is_count_by (passing p) p refl (λ _ _. refl) xs) (passing-most p xs from to before after)

-- a bisection of the slot's knots takes no more steps than one of as many knots as fall in it
pub few-in-slot : (ks : List (ℕ × ℕ)) (shift key from to : ℕ) → IsSlot ks shift (slot_of ks shift key) from to → first_key ks ≤ key → key ≤ last_key ks
    → length ks < 2 ^ 64 → bits (length (slice_range ks from to)) ≤ bits (knots_in_slot ks shift key)
few-in-slot ks shift key from to s low high fits =
    let first : leb (first_key ks) key ≡ true = le-leb _ _ low in
    let last : leb key (last_key ks) ≡ true = le-leb _ _ high in
    let count = count-range (λ knot. slot_of ks shift knot.0 == slot_of ks shift key) ks from to s.within (λ j start end. eq-eqb _ _ (s.inside j start end)) in
    rw (length-range ks from to s.within, first, last)
    (bits-le _ _ count (omega (arith, fits, count_by-le-length (λ (knot : ℕ × ℕ). slot_of ks shift knot.0 == slot_of ks shift key) ks)))

-- .. and no fewer knots are bisected than fall in the slot
pub most-in-slot : (ks : List (ℕ × ℕ)) (shift key from to : ℕ) → IsSlot ks shift (slot_of ks shift key) from to → first_key ks ≤ key → key ≤ last_key ks
    → length ks + 1 < 2 ^ 64 → bits (knots_in_slot ks shift key + 1) ≤ bits (length (slice_range ks from to) + 1)
most-in-slot ks shift key from to s low high fits =
    let first : leb (first_key ks) key ≡ true = le-leb _ _ low in
    let last : leb key (last_key ks) ≡ true = le-leb _ _ high in
    let count = count-most (λ knot. slot_of ks shift knot.0 == slot_of ks shift key) ks from to
    (λ j lt within. let less = s.before j lt in ne_eqb _ _ (λ same. absurd (omega (arith, less, same))))
    (λ j start within. let more = s.after j start within in ne_eqb _ _ (λ same. absurd (omega (arith, more, same)))) in
    rw (length-range ks from to s.within, first, last) (bits-le _ _ (omega (arith, count)) (omega (arith, fits, s.within)))

-- no knot falls in the slot of a key before the first knot
pub none-in-slot : (ks : List (ℕ × ℕ)) (shift key : ℕ) → key < first_key ks → knots_in_slot ks shift key ≡ 0
none-in-slot ks shift key lt = let first : leb (first_key ks) key ≡ false = lt-leb _ _ lt in rw first refl

-- the slots of keys up to the last knot's are few enough
pub slot-within : (ks : List (ℕ × ℕ)) (slots shift key : ℕ) → (last_key ks - first_key ks) / 2 ^ shift < slots → key ≤ last_key ks → slot_of ks shift key < slots
slot-within ks slots shift key fits high = let rising : slot_of ks shift key ≤ slot_of ks shift (last_key ks) = shr_mono shift (omega arith) in omega (arith, rising, fits)

-- a list of what holds at each place, with one more
pub at-push : (P : ℕ → ℕ → Type 0) (xs : List ℕ) (x : ℕ) → ((k : ℕ) → k < length xs → P k (get_or xs k 0)) → P (length xs) x
    → (k : ℕ) → k < length xs + 1 → P k (get_or (xs ++ x ∷ []) k 0)
at-push P xs x each here k lt = ⊎_elim
    (λ less. rw (get_or-append xs (x ∷ []) 0 k less) (each k less))
    (λ le. let same : k ≡ length xs = omega arith in rw (same, get_or-append_seam xs x [] 0) here)
    (cases_lt k (length xs))
