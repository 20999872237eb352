-- The room that a table takes, whatever the numbers of its knots and slots.
use Rattle.std.proofs.Common.{ℕ, ◌+◌, ◌*◌, ◌^◌, ◌<◌, ◌≤◌, arith}
use prog.Memory.{up}

-- each part begins where it is aligned
pub at-eight : (a : ℕ) {e n : ℕ} → e ≤ n → a + up 8 e ≤ a + 8 + n
at-eight a le = omega arith

pub after-eight : (a : ℕ) {e n : ℕ} → e ≤ n → up 8 e + a ≤ n + 8 + a
after-eight a le = omega arith

pub after-four : (a : ℕ) {e n : ℕ} → e ≤ n → up 4 e + a ≤ n + 4 + a
after-four a le = omega arith

pub at-one : {e n : ℕ} → e ≤ n → up 1 e + 0 ≤ n + 1
at-one le = omega arith

pub side-by-side : {d e m n : ℕ} → d ≤ m → e ≤ n → up 8 d + up 8 e ≤ m + n + 16
side-by-side first second = omega arith

pub whole : {e n : ℕ} → e ≤ n → n ≤ 2 ^ 62 → up 8 e < 2 ^ 63
whole le few = omega arith

-- what is asked at each call that is given the table itself
pub table-fits : (knots slots : ℕ) → knots ≤ 65536 → slots ≤ 65536 →
    up 8 (up 4 (up 8 (up 8 (264 + up 8 (up 8 (8 + up 8 (up 8 (8 + up 8 (up 1 (up 8 (0 + up 8 (0 + knots * 16)) + 8) + 0)) + 48)) + up 8 (16 + up 8 (up 1 (up 8 (0 + up 8 (0 + slots * 8)) + 8) + 0)))) + 120) + 88) + 4) < 2 ^ 63
table-fits knots slots few_knots few_slots =
    let knots_end : 0 + knots * 16 ≤ 1048576 = omega (arith, few_knots) in
    let slots_end : 0 + slots * 8 ≤ 524288 = omega (arith, few_slots) in
    let spline = at-eight 8 (after-eight 48 (at-eight 8 (at-one (after-eight 8 (at-eight 0 knots_end))))) in
    let radix = at-eight 16 (at-one (after-eight 8 (at-eight 0 slots_end))) in
    whole (after-four 4 (after-eight 88 (after-eight 120 (at-eight 264 (side-by-side spline radix))))) (omega arith)

-- what is asked at each call that is given the index of its pages
pub index-fits : (knots slots : ℕ) → knots ≤ 65536 → slots ≤ 65536 →
    up 8 (up 8 (8 + up 8 (up 8 (8 + up 8 (up 1 (up 8 (0 + up 8 (0 + knots * 16)) + 8) + 0)) + 48)) + up 8 (16 + up 8 (up 1 (up 8 (0 + up 8 (0 + slots * 8)) + 8) + 0))) < 2 ^ 63
index-fits knots slots few_knots few_slots =
    let knots_end : 0 + knots * 16 ≤ 1048576 = omega (arith, few_knots) in
    let slots_end : 0 + slots * 8 ≤ 524288 = omega (arith, few_slots) in
    let spline = at-eight 8 (after-eight 48 (at-eight 8 (at-one (after-eight 8 (at-eight 0 knots_end))))) in
    let radix = at-eight 16 (at-one (after-eight 8 (at-eight 0 slots_end))) in
    whole (side-by-side spline radix) (omega arith)

-- what is asked at each call that is given a schema, and at each that answers a view of a page
pub schema-fits : 88 < 2 ^ 63
schema-fits = omega arith

pub view-fits : 56 < 2 ^ 63
view-fits = omega arith
