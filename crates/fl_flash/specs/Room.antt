-- What contracts see of the memory of a flash.
use Rattle.std.specs.Prelude.{◌≡◌, ℕ, Bool, false, List, slice_index_or}

-- the bytes of a block that it has room for, and the pages
pub record RoomSizes : Type 0 where
  pub bytes : ℕ
  pub pages : ℕ

-- no flag is set
abbrev pub NoneIsSet : List Bool → Type 0
NoneIsSet flags = (p : ℕ) → slice_index_or flags p false ≡ false
