-- A table that follows the knots of a spline.
use Rattle.std.specs.Prelude.{ℕ, ◌-◌, ◌<◌, ◌≡◌, List, length, slice_index}
use Rattle.fl_radix.specs.declared.radix.Radix.{Radix}
use Rattle.fl_radix.specs.Slots.{first_key, last_key, IsLeastShift, IsStart}

-- the low bits of a key's distance from the first knot that a slot leaves out
abbrev pub shift_of : {SLOTS : ℕ} → Radix SLOTS → ℕ
shift_of r = r.shift

-- the slots are as narrow as SLOTS of them allow, and each has the number of knots before it
pub record IsTableOf {SLOTS : ℕ} (knots : List (ℕ × ℕ)) (r : Radix SLOTS) : Type 0 where
  pub first : r.first ≡ first_key knots
  pub shift : IsLeastShift SLOTS (last_key knots - first_key knots) (shift_of r)
  pub slots : length r.starts.items ≡ SLOTS
  pub starts : (slot : ℕ) → slot < SLOTS → IsStart knots (shift_of r) slot (slice_index r.starts.items slot)

-- the table is that of these knots; with no knots it may be any
abbrev pub Follows : {SLOTS : ℕ} → List (ℕ × ℕ) → Radix SLOTS → Type 0
Follows knots r = 0 < length knots → IsTableOf knots r
