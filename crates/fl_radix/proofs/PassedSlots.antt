-- The starts of slots that the last knot passes.
use Rattle.std.proofs.Common.{ℕ, ◌≡◌, ◌<◌, ◌≤◌, ◌+◌, ◌-◌, ◌/◌, ◌^◌, List, length, drop, get_or, slice_set, arith, refl, sym, subst, ap, ◌∙◌, inl, inr, ⊎_elim, le_antisymm, lt_of_lt_of_le, length-set}
use Rattle.std.proofs.lemmas.Bool.{cases_lt, cases_eq}
use Rattle.std.specs.List.{refill}
use Rattle.std.specs.Prelude.{slice_index}
use Rattle.std.proofs.lemmas.List.{get_or-set_same, get_or-set_other, take_at}
use Rattle.std.proofs.Math.Pow.{shr_mono}
use Rattle.fl_spline.specs.Points.{Rises, LastMoved}
use Rattle.fl_spline.specs.Segment.{point_at}
use Rattle.fl_radix.specs.declared.radix.Radix.{Radix}
use Rattle.fl_radix.specs.Radix.{IsTableOf}
use Rattle.fl_radix.specs.Slots.{slot_of, first_key, last_key, IsLeastShift, IsStart, PassedBy}
use Rattle.fl_radix.proofs.RisingKnots.{slot-rises}

-- the walk from the knot's new slot down to here
pub record Passes (last slot here : ℕ) (old new : List ℕ) : Type 0 where
  pub count : length new ≡ length old
  pub within : here ≤ slot
  pub room : slot < length old
  pub kept : (s : ℕ) → s ≤ here → get_or new s 0 ≡ get_or old s 0
  pub passed : (s : ℕ) → here < s → s ≤ slot → (get_or new s 0 ≡ last) × (last < get_or old s 0)
  pub past : (s : ℕ) → slot < s → get_or new s 0 ≡ get_or old s 0

pub passes-none : (last slot : ℕ) (old : List ℕ) → slot < length old → Passes last slot slot old old
passes-none last slot old room = record {
  count = refl;
  within = omega arith;
  room = room;
  kept = λ s le. refl;
  passed = λ s lt le. absurd (omega (arith, lt, le));
  past = λ s lt. refl;
}

pub passes-more : (last slot here : ℕ) (old new : List ℕ) → Passes last slot here old new → 0 < here → last < get_or new here 0
    → Passes last slot (here - 1) old (slice_set new here last)
passes-more last slot here old new p some over =
    let inside : here < length new = omega (arith, p.count, p.within, p.room) in
    record {
      count = omega (arith, length-set new here last, p.count);
      within = omega (arith, p.within);
      room = p.room;
      kept = λ s le. get_or-set_other new here s last 0 (λ e. absurd (omega (arith, e, le, some))) ∙ p.kept s (omega (arith, le));
      passed = λ s lt le. elim (cases_eq s here) [
        | inl same ↦
            let at : get_or (slice_set new here last) s 0 ≡ last = ap (λ (k : ℕ). get_or (slice_set new here last) k 0) same ∙ get_or-set_same new here last 0 inside in
            let was : last < get_or old s 0 = rw (same, ← p.kept here (omega arith)) over in
            (at, was)
        | inr apart ↦
            let before = p.passed s (omega (arith, lt, apart, some)) le in
            (get_or-set_other new here s last 0 apart ∙ before.0, before.1)
      ];
      past = λ s lt. get_or-set_other new here s last 0 (λ e. absurd (omega (arith, e, lt, p.within))) ∙ p.past s lt;
    }

pub passed-by : (last slot here : ℕ) (old new : List ℕ) → Passes last slot here old new → (0 < here → get_or new here 0 ≤ last) → PassedBy last slot old new
passed-by last slot here old new p stops = record {
  count = p.count;
  stood = here;
  within = p.within;
  kept = p.kept;
  passed = p.passed;
  past = p.past;
  stops = λ some. rw (← p.kept here (omega arith)) (stops some);
}

-- .. as a vector has them after the walk over its slice
pub passed-refilled : (last slot : ℕ) (xs old new : List ℕ) → old ≡ xs → PassedBy last slot old new → PassedBy last slot xs (refill (length xs) xs new)
passed-refilled last slot xs old new same passed =
    let all : refill (length xs) xs new ≡ new = take_at new (drop (length new) xs) (length xs) (passed.count ∙ ap length same) in
    rw all (subst (λ (l : List ℕ). PassedBy last slot l new) same passed)

-- the slots stay as narrow as they can be while the knots' width grows, as long as the last knot has one
shift-still : (slots old new shift : ℕ) → old ≤ new → new / 2 ^ shift < slots → IsLeastShift slots old shift → IsLeastShift slots new shift
shift-still slots old new shift more fits is = record {
  fits = fits;
  least = λ s lt. let rising : old / 2 ^ s ≤ new / 2 ^ s = shr_mono s more in omega (arith, is.least s lt, rising);
}

-- the table after its last knot moved
pub table-moved : {SLOTS : ℕ} (old new : List (ℕ × ℕ)) (slot : ℕ) (r r' : Radix SLOTS) → Rises new → 0 < length new → LastMoved old new → IsTableOf old r
    → slot ≡ slot_of new r.shift (last_key new) → slot < SLOTS → PassedBy (length new - 1) slot r.starts.items r'.starts.items
    → r'.first ≡ r.first → r'.shift ≡ r.shift → IsTableOf new r'
table-moved {SLOTS} old new slot r r' up some moved table at fits passed first shift = record {
  first = first ∙ table.first ∙ sym moved.first;
  shift = rw shift (shift-still SLOTS (last_key old - first_key old) (last_key new - first_key new) r.shift wider (omega (arith, at, fits)) table.shift);
  slots = passed.count ∙ table.slots;
  starts = λ s lt. rw shift (start s lt);
}
  where
    last_was : (point_at old (length old - 1)).0 ≤ last_key new
    last_was = subst (λ (k : ℕ). (point_at old (length old - 1)).0 ≤ (point_at new k).0) (let same : length old - 1 ≡ length new - 1 = omega (arith, moved.count) in same) moved.later

    wider : last_key old - first_key old ≤ last_key new - first_key new
    wider = omega (arith, last_was, moved.first)

    place : (j : ℕ) → j + 1 < length new → slot_of new r.shift (point_at new j).0 ≡ slot_of old r.shift (point_at old j).0
    place j lt = rw (moved.before j (omega (arith, lt, moved.count)), moved.first) refl

    end : slot_of old r.shift (point_at old (length old - 1)).0 ≤ slot
    end = let rising : (last_key old - first_key old) / 2 ^ r.shift ≤ (last_key new - first_key new) / 2 ^ r.shift = shr_mono r.shift wider in omega (arith, rising, at)

    up-to-last : (j : ℕ) → j < length new → slot_of new r.shift (point_at new j).0 ≤ slot_of new r.shift (last_key new)
    up-to-last j lt =
        let before : j ≤ length new - 1 = omega arith in
        let last : length new - 1 < length new = omega (arith, some) in
        slot-rises new r.shift j (length new - 1) up before last

    -- all knots stand before a slot past that of the last one
    all-stand : (s : ℕ) → slot < s → IsStart new r.shift s (length new)
    all-stand s past = record {
      within = omega arith;
      before = λ j lt. let rising = up-to-last j lt in omega (arith, rising, at, past);
      after = λ j ge within. absurd (omega (arith, ge, within));
    }

    -- a slot before which no more than the first knots stand, up to the knot's new one
    but-last : (s from : ℕ) → from + 1 ≤ length new → s ≤ slot → ((j : ℕ) → j < from → slot_of old r.shift (point_at old j).0 < s)
        → ((j : ℕ) → from ≤ j → j + 1 < length new → s ≤ slot_of old r.shift (point_at old j).0) → IsStart new r.shift s from
    but-last s from less le before after = record {
      within = omega (arith, less);
      before = λ j lt. rw (place j (omega (arith, lt, less))) (before j lt);
      after = λ j ge within. elim (cases_eq (j + 1) (length new)) [
        | inl last ↦ let same : j ≡ length new - 1 = omega (arith, last) in rw same (omega (arith, at, le))
        | inr apart ↦ rw (place j (omega (arith, within, apart))) (after j ge (omega (arith, within, apart)))
      ];
    }

    few : (s : ℕ) → s ≤ passed.stood → s < SLOTS → get_or r.starts.items s 0 + 1 ≤ length new
    few s le lt = ⊎_elim
        (λ less. omega (arith, less))
        (λ full.
        let is = table.starts s lt in
        let last = is.before (length old - 1) (omega (arith, full, moved.count, some)) in
        ⊎_elim
        (λ stands.
        let stops = passed.stops stands in
        let after = (table.starts passed.stood (omega (arith, passed.within, fits))).after (length old - 1) (omega (arith, stops, moved.count)) (omega (arith, moved.count, some)) in
        absurd (omega (arith, after, last, le)))
        (λ none. absurd (omega (arith, last, le, none)))
        (cases_lt 0 passed.stood))
        (cases_lt (get_or r.starts.items s 0) (length new))

    start : (s : ℕ) → s < SLOTS → IsStart new r.shift s (get_or r'.starts.items s 0)
    start s lt = ⊎_elim
        (λ past.
        let is = table.starts s lt in
        let all : get_or r.starts.items s 0 ≡ length new = ⊎_elim
        (λ less. let after = is.after (length old - 1) (omega (arith, less, moved.count)) (omega (arith, moved.count, some)) in absurd (omega (arith, after, end, past)))
        (λ ge. omega (arith, ge, is.within, moved.count))
        (cases_lt (get_or r.starts.items s 0) (length new)) in
        rw (passed.past s past, all) (all-stand s past))
        (λ inside. ⊎_elim
        (λ over.
        let now = passed.passed s over inside in
        let is = table.starts s lt in
        let all : get_or r.starts.items s 0 ≡ length new = omega (arith, now.1, is.within, moved.count) in
        rw now.0 (but-last s (length new - 1) (omega (arith, some)) inside (λ j below. is.before j (omega (arith, below, all)))
        (λ j ge within. absurd (omega (arith, ge, within)))))
        (λ stays.
        let is = table.starts s lt in
        rw (passed.kept s stays)
        (but-last s (get_or r.starts.items s 0) (few s stays lt) inside is.before (λ j ge within. is.after j ge (omega (arith, within, moved.count)))))
        (cases_lt passed.stood s))
        (cases_lt slot s)

-- the table after the start of each slot was found
pub table-filled : {SLOTS : ℕ} (knots : List (ℕ × ℕ)) (r : Radix SLOTS) (filled : ℕ) → length r.starts.items ≡ filled → filled ≤ SLOTS → SLOTS ≤ filled
    → r.first ≡ first_key knots → IsLeastShift SLOTS (last_key knots - first_key knots) r.shift
    → ((slot : ℕ) → slot < filled → IsStart knots r.shift slot (slice_index r.starts.items slot)) → IsTableOf knots r
table-filled knots r filled count most least first shift starts = record {
  first = first;
  shift = shift;
  slots = count ∙ le_antisymm most least;
  starts = λ slot lt. starts slot (lt_of_lt_of_le lt least);
}
