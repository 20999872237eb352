-- How many bytes the room of a stream of lines holds.
use Rattle.std.proofs.Common.{◌≡◌, ℕ, ◌+◌, ◌-◌, ◌<◌, ◌≤◌, List, [], length, ap, arith, length-drop}
use Rattle.std.specs.List.{slice_range}
use Rattle.std.proofs.lemmas.List.{length-take-le}
use Rattle.fl_lines.specs.Stream.{LinesState, after_line, after_rest}
use Rattle.fl_lines.proofs.Pieces.{slice-short}

-- what was moved to the front
pub few-front : (buf : List ℕ) (from to : ℕ) → to ≤ 4097 → length (slice_range buf 0 (to - from)) ≤ 4097
few-front buf from to few = omega (arith, few, slice-short buf 0 (to - from))

pub room-kept : (size from to most : ℕ) → size ≡ 4097 → to ≤ 4097 → to - from ≤ most
    → (size ≡ 4097) × (0 ≤ 0) × (0 ≤ 4097) × (0 ≤ to - from) × (to - from ≤ 4097) × (to - from - 0 ≤ most)
room-kept size from to most whole few within = (whole, omega arith, omega arith, omega arith, omega (arith, few), omega (arith, within))

-- a line was given, or all that was ahead
pub few-behind : (mid new : LinesState) (len : ℕ) → new ≡ after_line len mid → length mid.ahead ≤ 4097 → length new.ahead ≤ 4097
few-behind mid new len is few = omega (arith, ap (λ (s : LinesState). length s.ahead) is, length-drop (len + 1) mid.ahead, few)

pub few-none : (mid new : LinesState) → new ≡ after_rest mid → length new.ahead ≤ 4097
few-none mid new is = omega (arith, ap (λ (s : LinesState). length s.ahead) is)

pub none-ahead : (ahead : List ℕ) → ahead ≡ [] → length ahead ≤ 4097
none-ahead ahead none = omega (arith, ap length none)

-- a line that a newline ends isn't too long
pub line-short : {P : Type 0} (mid new : LinesState) (len : ℕ) → new ≡ after_line len mid → len < length mid.ahead → length mid.ahead ≤ 4097 → 4096 < length new.line → P
line-short mid new len is within few long = absurd (omega (arith, ap (λ (s : LinesState). length s.line) is, length-take-le len mid.ahead (let le : len ≤ length mid.ahead = omega arith in le), within, few, long))
