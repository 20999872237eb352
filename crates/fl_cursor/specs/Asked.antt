-- The rows that a cursor has still to give.
use Rattle.std.specs.Prelude.{ℕ, suc, zero, ◌+◌, ◌-◌, ◌^◌, Bool, true, ◌&&◌, nat_le, max, min, Option, Some, None, slice_get, if◌then◌else◌}
use Rattle.fl_base.specs.declared.types.KeyRange.{KeyRange}
use Rattle.fl_base.specs.declared.types.Span.{Span}
use Rattle.fl_model.specs.Query.{Cursor, in_range, in_span, is_above, is_up_to}
use Rattle.fl_model.specs.Row.{Row}
use Rattle.fl_cursor.specs.declared.bookmark.Bookmark.{Bookmark}

-- the cursor of the model that a bookmark keeps
abbrev pub asked_by : Bookmark → Cursor
asked_by mark = record { range = mark.range; span = mark.span; after = mark.after; top = mark.top }

-- a row matches where its key is in the range and its first value in the span
abbrev pub row_matches : KeyRange → Option Span → Row → Bool
row_matches range span row = in_range range row.key && in_span span (slice_get row.values 0)

-- a row that is still to be given
abbrev pub is_left : Cursor → Row → Bool
is_left cursor row = row_matches cursor.range cursor.span row && is_above cursor.after row.key && is_up_to cursor.top row.key

-- a row that was to be given at the beginning
abbrev pub is_asked : Cursor → Row → Bool
is_asked cursor row = row_matches cursor.range cursor.span row && is_up_to cursor.top row.key

-- no key behind this one may be given
abbrev pub is_last : Option ℕ → ℕ → Bool
is_last None key = true
is_last (Some top) key = nat_le top key

-- the key above which the next row lies: the greater of the key given last and the one before the range
abbrev pub above_range : ℕ → Option ℕ → Option ℕ
above_range zero after = after
above_range (suc low) None = Some low
above_range (suc low) (Some after) = if nat_le low after then Some after else Some low

abbrev pub above_of : Cursor → Option ℕ
above_of cursor = above_range cursor.range.low cursor.after

-- the lowest key that may still be given
abbrev pub lowest : ℕ → Option ℕ → ℕ
lowest low None = low
lowest low (Some after) = max low (min (after + 1) (2 ^ 64 - 1))

abbrev pub lowest_of : Cursor → ℕ
lowest_of cursor = lowest cursor.range.low cursor.after
