-- The room that a table with a log takes, whatever the numbers of its knots and slots.
use Rattle.std.proofs.Common.{◌≡◌, ℕ, ◌+◌, ◌*◌, ◌^◌, ◌<◌, ◌≤◌, arith}
use prog.Memory.{up}
use Rattle.fl_parts.proofs.Sizes.{side-by-side, at-eight, after-eight, after-four, whole, at-one}

-- what is asked at each call that is given the table with its log
pub logged-fits : (knots slots : ℕ) → knots ≤ 65536 → slots ≤ 65536 → up 8 (up 8 (0 + up 8 (up 4 (up 8 (up 8 (264 + up 8 (up 8 (8 + up 8 (up 8 (8 + up 8 (up 1 (up 8 (0 + up 8 (0 + knots * 16)) + 8) + 0)) + 48)) + up 8 (16 + up 8 (up 1 (up 8 (0 + up 8 (0 + slots * 8)) + 8) + 0)))) + 120) + 88) + 4)) + 96) < 2 ^ 63
logged-fits knots slots few_knots few_slots =
    let knots_end : 0 + knots * 16 ≤ 1048576 = omega (arith, few_knots) in
    let slots_end : 0 + slots * 8 ≤ 524288 = omega (arith, few_slots) in
    let spline = at-eight 8 (after-eight 48 (at-eight 8 (at-one (after-eight 8 (at-eight 0 knots_end))))) in
    let radix = at-eight 16 (at-one (after-eight 8 (at-eight 0 slots_end))) in
    whole (after-eight 96 (at-eight 0 (after-four 4 (after-eight 88 (after-eight 120 (at-eight 264 (side-by-side spline radix))))))) (omega arith)

-- the bytes of a page, of which a row and its header take a part
pub some-bytes : (n page row : ℕ) → n ≡ page → row + 24 ≤ page → 24 ≤ n
some-bytes n page row is room = omega (arith, is, room)

pub few-bytes : (n page : ℕ) → n ≡ page → page ≤ 4096 → n ≤ 4096
few-bytes n page is few = omega (arith, is, few)
