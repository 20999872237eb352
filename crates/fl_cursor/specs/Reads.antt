-- How many reads the steps to come make.
use Rattle.std.specs.Prelude.{◌≡◌, ◌≤◌, ℕ, zero, suc, ◌+◌, ◌-◌, ◌==◌, Bool, true, false, not, ◌&&◌, ◌||◌, nat_le, min, Option, Some, None, is_some, option_map, unwrap_or, List, [], ◌∷◌, drop, bit_and, if◌then◌else◌}
use Rattle.std.specs.List.{list_any}
use Rattle.fl_model.specs.Query as model
use Rattle.fl_model.specs.Query.{is_up_to}
use Rattle.fl_base.specs.declared.types.Span.{Span}
use Rattle.fl_bitmap.specs.Bucket.{bitmap_in}
use Rattle.fl_flash.specs.Buffer.{BufferState}
use Rattle.fl_index.specs.Memory.{form_in, is_waiting, listing_in}
use Rattle.fl_index.specs.declared.index.BitmapIndex.{BitmapIndex}
use Rattle.fl_model.specs.Row.{Row}
use Rattle.fl_frame.specs.Contents.{Contents}
use Rattle.fl_page.specs.Page.{rows_in}
use Rattle.fl_find.specs.Index.{most_reads}
use Rattle.fl_find.specs.Pages.{first_key}
use Rattle.fl_table.specs.Look.{layout_in, oldest_in, rows_noted, buffered_rows, voids_noted, learned_in, buckets_in, index_in}
use Rattle.fl_table.specs.Memory.{next_in}
use Rattle.fl_parts.specs.Skipping.{mask_for, unread_of, due_of}
use Rattle.fl_table.specs.declared.table.Table.{Table}
use Rattle.fl_cursor.specs.Asked.{is_asked, is_last, lowest_of}
use Rattle.fl_cursor.specs.Cursor.{table_of, asked_of, buffer_of, index_page}
use Rattle.fl_cursor.specs.Listed.{rows_on}
use Rattle.fl_cursor.specs.declared.place.Place.{Place}
use Rattle.fl_cursor.specs.declared.place.Place.TheVariants.{Start, Pages, InPage, Pending, Ended}
use Rattle.fl_cursor.specs.declared.cursor.Cursor.{Cursor}

-- a row behind which none may be given
abbrev pub has_last : Option ℕ → List Row → Bool
has_last top rows = list_any (λ row. is_last top row.key) rows

-- an index page lists a data page, or its entry waits
abbrev pub is_indexed_in : Option BitmapIndex → ℕ → Bool
is_indexed_in None number = false
is_indexed_in (Some index) number = is_waiting index number || is_some (listing_in index number)

-- the bitmap of an indexed page with these rows tells that none has a value in the span
abbrev pub is_missed : {KNOTS SLOTS : ℕ} → Table KNOTS SLOTS → Option Span → ℕ → List Row → Bool
is_missed t None number rows = false
is_missed t (Some span) number rows = is_indexed_in (index_in t) number && (bit_and (bitmap_in (buckets_in t) rows) (mask_for (buckets_in t) span) == 0)

-- the entries of an index tell more of a data page than its bitmap
abbrev pub has_full : Option BitmapIndex → Bool
has_full None = false
has_full (Some index) = (form_in index).full

-- the first of these rows is above the last key that may be given
abbrev pub begins_above : Option ℕ → List Row → Bool
begins_above top rows = unwrap_or (option_map (λ first. not (is_up_to top first)) (first_key rows)) false

-- the full entry of a page tells so of its rows, where values are asked for
abbrev pub is_beyond : {KNOTS SLOTS : ℕ} → Table KNOTS SLOTS → Contents → Option Span → Option ℕ → ℕ → Bool
is_beyond t contents None top number = false
is_beyond t contents (Some span) top number = has_full (index_in t) && is_indexed_in (index_in t) number && begins_above top (rows_on t contents number)

-- it isn't read, because it has no rows or because its bitmap tells so
abbrev pub is_skipped : {KNOTS SLOTS : ℕ} → Table KNOTS SLOTS → Contents → Option Span → ℕ → Bool
is_skipped t contents span number = (rows_noted t number == 0) || is_missed t span number (rows_on t contents number)

-- the pages to be read from this one on, up to the first with a row behind which none may be given, or before one whose entry
-- tells that it begins above the last key
abbrev pub pages_to_last : {KNOTS SLOTS : ℕ} → Table KNOTS SLOTS → Contents → Option Span → Option ℕ → ℕ → ℕ → ℕ
pages_to_last t contents span top number zero = 0
pages_to_last t contents span top number (suc n) =
    if is_beyond t contents span top number then 0
    else if is_skipped t contents span number then pages_to_last t contents span top (number + 1) n
    else 1 + (if has_last top (rows_on t contents number) then 0 else pages_to_last t contents span top (number + 1) n)

-- the pages from this one on that are looked up: those with a row up to the last key that may be given
abbrev pub pages_looked_up : {KNOTS SLOTS : ℕ} → Table KNOTS SLOTS → Contents → Option ℕ → ℕ → ℕ → List ℕ
pages_looked_up t contents top number zero = []
pages_looked_up t contents top number (suc n) =
    if list_any (λ row. is_up_to top row.key) (rows_on t contents number) then number ∷ pages_looked_up t contents top (number + 1) n
    else pages_looked_up t contents top (number + 1) n

-- so many pages with rows are looked at from this one on before they are read, up to the first with a row behind which none may be
-- given, or to one that begins above the last key
abbrev pub looks_to_last : {KNOTS SLOTS : ℕ} → Table KNOTS SLOTS → Contents → Option Span → Option ℕ → ℕ → ℕ → ℕ
looks_to_last t contents span top number zero = 0
looks_to_last t contents span top number (suc n) =
    if rows_noted t number == 0 then looks_to_last t contents span top (number + 1) n
    else 1 + (if is_beyond t contents span top number then 0
    else if is_missed t span number (rows_on t contents number) then looks_to_last t contents span top (number + 1) n
    else if has_last top (rows_on t contents number) then 0 else looks_to_last t contents span top (number + 1) n)

-- So many index pages may still be read from this page on, and so many have to be. No look at a page reads more than one.
abbrev pub index_most : {KNOTS SLOTS : ℕ} → Table KNOTS SLOTS → Contents → model.Cursor → BufferState → ℕ → ℕ
index_most t contents asked index number = min (unread_of asked.span (index_in t) number index) (looks_to_last t contents asked.span asked.top number (next_in t - number))

abbrev pub index_least : {KNOTS SLOTS : ℕ} → Table KNOTS SLOTS → Contents → model.Cursor → BufferState → ℕ → ℕ
index_least t contents asked index number = due_of asked.span (index_in t) (pages_looked_up t contents asked.top number (next_in t - number)) index

-- the pages from this one on with a row that is asked for
abbrev pub pages_asked : {KNOTS SLOTS : ℕ} → Table KNOTS SLOTS → Contents → model.Cursor → ℕ → ℕ → ℕ
pages_asked t contents asked number zero = 0
pages_asked t contents asked number (suc n) =
    (if list_any (is_asked asked) (rows_on t contents number) then 1 else 0) + pages_asked t contents asked (number + 1) n

-- a page whose first row has at most this key
abbrev pub begins_by : ℕ → List Row → Bool
begins_by key rows = unwrap_or (option_map (λ first. nat_le first key) (first_key rows)) false

-- the last of the first n kept pages that begins so, or the oldest one where none does
abbrev pub start_among : {KNOTS SLOTS : ℕ} → Table KNOTS SLOTS → Contents → ℕ → ℕ → ℕ
start_among t contents key zero = oldest_in t
start_among t contents key (suc n) = if begins_by key (rows_on t contents (oldest_in t + n)) then oldest_in t + n else start_among t contents key n

-- the page from which the rows with at least this key are read
abbrev pub start_of : {KNOTS SLOTS : ℕ} → Table KNOTS SLOTS → Contents → ℕ → ℕ
start_of t contents key = start_among t contents key (next_in t - oldest_in t)

-- at most so many reads look its page up
abbrev pub most_to_find : {KNOTS SLOTS : ℕ} → Table KNOTS SLOTS → ℕ → ℕ
most_to_find t key =
    if begins_by key (buffered_rows t) then next_in t - oldest_in t + 1 else most_reads (learned_in t) (next_in t - oldest_in t) (voids_noted t) key

-- what is asked for from the lowest key on that may still be given
abbrev pub raised : model.Cursor → model.Cursor
raised asked = record asked { range = record { low = lowest_of asked; high = asked.range.high } }

-- from a place on, where the buffers hold this index page and this page
abbrev pub most_from : {KNOTS SLOTS : ℕ} → Table KNOTS SLOTS → Contents → model.Cursor → BufferState → List ℕ → Place → ℕ
most_from t contents asked index page Start =
    let start = start_of t contents (lowest_of asked) in
    most_to_find t (lowest_of asked) + (pages_to_last t contents asked.span asked.top start (next_in t - start) + index_most t contents asked index start)
most_from t contents asked index page (Pages next) = pages_to_last t contents asked.span asked.top next (next_in t - next) + index_most t contents asked index next
most_from t contents asked index page (InPage number row) =
    if has_last asked.top (drop row (rows_in (layout_in t) page)) then 0
    else pages_to_last t contents asked.span asked.top (number + 1) (next_in t - (number + 1)) + index_most t contents asked index (number + 1)
most_from t contents asked index page (Pending row) = 0
most_from t contents asked index page Ended = 0

abbrev pub least_from : {KNOTS SLOTS : ℕ} → Table KNOTS SLOTS → Contents → model.Cursor → BufferState → Place → ℕ
least_from t contents asked index Start =
    pages_asked t contents (raised asked) (oldest_in t) (next_in t - oldest_in t) + index_least t contents asked index (start_of t contents (lowest_of asked) + 1)
least_from t contents asked index (Pages next) = pages_asked t contents asked next (next_in t - next) + index_least t contents asked index next
least_from t contents asked index (InPage number row) = pages_asked t contents asked (number + 1) (next_in t - (number + 1)) + index_least t contents asked index (number + 1)
least_from t contents asked index (Pending row) = 0
least_from t contents asked index Ended = 0

-- at most so many reads, up to the first that fails
abbrev pub most_of : {KNOTS SLOTS : ℕ} → Cursor KNOTS SLOTS → Contents → ℕ
most_of cursor contents = most_from (table_of cursor) contents (asked_of cursor) (index_page cursor) (buffer_of cursor) cursor.place

-- at least so many, where none fails
abbrev pub least_of : {KNOTS SLOTS : ℕ} → Cursor KNOTS SLOTS → Contents → ℕ
least_of cursor contents = least_from (table_of cursor) contents (asked_of cursor) (index_page cursor) cursor.place

-- ---- the place where it begins

-- At the pages, where the lowest key may be given and isn't pending; else the pages are done.
abbrev pub IsBegun : {KNOTS SLOTS : ℕ} → model.Cursor → Table KNOTS SLOTS → Place → Type 0
IsBegun asked t Start = (begins_by (lowest_of asked) (buffered_rows t) ≡ false) × (is_up_to asked.top (lowest_of asked) ≡ true)
IsBegun asked t (Pending row) = begins_by (lowest_of asked) (buffered_rows t) ≡ true
IsBegun asked t Ended = is_up_to asked.top (lowest_of asked) ≡ false
IsBegun asked t (Pages next) = ⊥
IsBegun asked t (InPage number row) = ⊥

-- no key above this one may be given
abbrev pub IsBounded : Option ℕ → ℕ → Type 0
IsBounded None high = Unit {0}
IsBounded (Some top) high = top ≤ high
