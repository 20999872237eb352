-- Room for the pages in hand.
use Rattle.std.specs.Prelude.{◌≡◌, ℕ, length}
use Rattle.fl_salvage.specs.declared.rooms.Rooms.{Rooms}

-- each has room for a page of this size
pub record HasRooms (rooms : Rooms) (size : ℕ) : Type 0 where
  pub rows : length rooms.page.items ≡ size
  pub blob : length rooms.blob.page.items ≡ size
