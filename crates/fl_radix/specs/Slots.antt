-- Slots of keys, from the first knot's key to the last one's.
use Rattle.std.specs.Prelude.{ℕ, ◌-◌, ◌/◌, ◌^◌, ◌<◌, ◌≤◌, ◌≡◌, List, length, slice_index, Bool, nat_le, ◌&&◌, ◌==◌, if◌then◌else◌}
use Rattle.std.specs.List.{count_by}
use Rattle.fl_spline.specs.Segment.{point_at}

abbrev pub first_key : List (ℕ × ℕ) → ℕ
first_key knots = (point_at knots 0).0

abbrev pub last_key : List (ℕ × ℕ) → ℕ
last_key knots = (point_at knots (length knots - 1)).0

-- the slot of a key: its distance from the first knot's key, without the low bits
abbrev pub slot_of : List (ℕ × ℕ) → ℕ → ℕ → ℕ
slot_of knots shift key = (key - first_key knots) / 2 ^ shift

-- the least number of low bits without which a width is below the number of slots
pub record IsLeastShift (slots width shift : ℕ) : Type 0 where
  pub fits : width / 2 ^ shift < slots
  pub least : (s : ℕ) → s < shift → slots ≤ width / 2 ^ s

-- the first `start` knots stand in the slots before this one, and the others don't
pub record IsStart (knots : List (ℕ × ℕ)) (shift slot start : ℕ) : Type 0 where
  pub within : start ≤ length knots
  pub before : (j : ℕ) → j < start → slot_of knots shift (point_at knots j).0 < slot
  pub after : (j : ℕ) → start ≤ j → j < length knots → slot ≤ slot_of knots shift (point_at knots j).0

-- the starts after the last knot moved to this slot: up to some slot, and past this one, they are as they were, and between
-- them all knots stood before a slot, and all but the last one do now
pub record PassedBy (last slot : ℕ) (old new : List ℕ) : Type 0 where
  pub count : length new ≡ length old
  pub stood : ℕ
  pub within : stood ≤ slot
  pub kept : (s : ℕ) → s ≤ stood → slice_index new s ≡ slice_index old s
  pub passed : (s : ℕ) → stood < s → s ≤ slot → (slice_index new s ≡ last) × (last < slice_index old s)
  pub past : (s : ℕ) → slot < s → slice_index new s ≡ slice_index old s
  pub stops : 0 < stood → slice_index old stood ≤ last

-- the knots of a slot are those from one to before another
pub record IsSlot (knots : List (ℕ × ℕ)) (shift slot from to : ℕ) : Type 0 where
  pub order : from ≤ to
  pub within : to ≤ length knots
  pub before : (j : ℕ) → j < from → slot_of knots shift (point_at knots j).0 < slot
  pub inside : (j : ℕ) → from ≤ j → j < to → slot_of knots shift (point_at knots j).0 ≡ slot
  pub after : (j : ℕ) → to ≤ j → j < length knots → slot < slot_of knots shift (point_at knots j).0

-- the knots whose own keys fall in the slot of a key; a key before the first knot or past the last one has no slot
abbrev pub has_slot : List (ℕ × ℕ) → ℕ → Bool
has_slot knots key = nat_le (first_key knots) key && nat_le key (last_key knots)

abbrev pub knots_in_slot : List (ℕ × ℕ) → ℕ → ℕ → ℕ
knots_in_slot knots shift key =
    if has_slot knots key then count_by (λ (knot : ℕ × ℕ). slot_of knots shift knot.0 == slot_of knots shift key) knots else 0

-- the first n knots have keys of at most the key, and all from n on have greater ones
abbrev pub AreUpTo : List (ℕ × ℕ) → ℕ → ℕ → Type 0
AreUpTo knots key n = (j : ℕ) → j < n → (point_at knots j).0 ≤ key

abbrev pub AreBeyond : List (ℕ × ℕ) → ℕ → ℕ → Type 0
AreBeyond knots key n = (j : ℕ) → n ≤ j → j < length knots → key < (point_at knots j).0
