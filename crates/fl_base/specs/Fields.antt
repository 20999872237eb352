-- A number that is put into a slice is read there again, and the bytes outside stay.
use Rattle.std.specs.Prelude.{◌≡◌, ◌⊎◌, ℕ, ◌+◌, ◌^◌, ◌<◌, ◌≤◌, List, length, slice_range}
use Rattle.std.specs.Int.{Width, w16, w32, w64, to_le_bytes, from_le_bytes}
use Rattle.fl_base.specs.Bytes.{splice}

-- a number of so many bytes, put in at a place
pub record PutIsRead (width : Width) (count : ℕ) (bytes : List ℕ) (at v : ℕ) (new : List ℕ) : Type 0 where
  pub read : from_le_bytes width (slice_range new at (at + count)) ≡ v
  pub size : length new ≡ length bytes
  pub outside : (i j : ℕ) → j ≤ at ⊎ at + count ≤ i → slice_range new i j ≡ slice_range bytes i j

abbrev pub ReadsBack : Width → ℕ → ℕ → Type 0
ReadsBack width count limit =
    (bytes : List ℕ) (at v : ℕ) → at + count ≤ length bytes → v < limit
    → PutIsRead width count bytes at v (splice bytes at (to_le_bytes width v))

-- so it is with each of the three widths
pub record FieldsReadBack : Type 0 where
  pub two : ReadsBack w16 2 (2 ^ 16)
  pub four : ReadsBack w32 4 (2 ^ 32)
  pub eight : ReadsBack w64 8 (2 ^ 64)
