-- The buffers for the pages in hand.
use Rattle.std.specs.Prelude.{◌≡◌, ℕ, length, None}
use Rattle.fl_queries.specs.declared.buffers.Buffers.{Buffers}

-- each buffer has room for a page of this size
abbrev pub HasRooms : Buffers → ℕ → Type 0
HasRooms buf size =
    (length buf.rows.bytes ≡ size) × (length buf.index.bytes ≡ size) × (length buf.right_rows.bytes ≡ size) × (length buf.right_index.bytes ≡ size)

-- no buffer holds a page
abbrev pub AreForgotten : Buffers → Type 0
AreForgotten buf = (buf.rows.holds ≡ None) × (buf.index.holds ≡ None) × (buf.right_rows.holds ≡ None) × (buf.right_index.holds ≡ None)
