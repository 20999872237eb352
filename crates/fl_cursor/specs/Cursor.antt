-- What clauses see of a cursor.
use Rattle.std.specs.Prelude.{◌≡◌, ◌⊎◌, ℕ, ◌+◌, ◌<◌, ◌≤◌, Bool, true, false, ◌&&◌, nat_lt, nat_le, Option, Some, None, unwrap_or, List, [], ◌++◌, length, drop, filter, slice_get, IsTrue}
use Rattle.std.specs.List.{AllByRecursion}
use Rattle.std.specs.Borrow.{GName}
use Rattle.fl_flash.specs.Buffer.{BufferState}
use Rattle.fl_flash.specs.Flash.{FlashState}
use Rattle.fl_flash.specs.Places.{extent, page_of}
use Rattle.fl_index.specs.Looking as looking
use Rattle.fl_index.specs.Looking.{IsHeld}
use Rattle.fl_index.specs.Memory as indexes
use Rattle.fl_index.specs.Memory.{per_page, place_in}
use Rattle.fl_index.specs.Page as index_pages
use Rattle.fl_index.specs.declared.index.BitmapIndex.{BitmapIndex}
use Rattle.fl_mark.specs.Mark.{state_of_page}
use Rattle.fl_mark.specs.declared.page_state.PageState.TheVariants.{Committed}
use Rattle.fl_model.specs.Query as model
use Rattle.fl_model.specs.Record.{Plan}
use Rattle.fl_model.specs.Row.{Row}
use Rattle.fl_model.specs.Table as tables
use Rattle.fl_frame.specs.Contents.{Contents, contents_of}
use Rattle.fl_page.specs.Header.{page_count}
use Rattle.fl_page.specs.Page.{IsGoodPage, bad_page, rows_in, has_form}
use Rattle.fl_page.specs.Steps.{Ascends}
use Rattle.fl_page.specs.declared.fault.BadPage.{BadPage}
use Rattle.fl_page.specs.declared.fault.ReadFault.{ReadFault}
use Rattle.fl_page.specs.declared.fault.ReadFault.TheVariants as fault
use Rattle.fl_table.specs.Look.{layout_in, oldest_in, buffered_rows, index_in}
use Rattle.fl_table.specs.Memory.{is_running, next_in, pending_in, LiesOn}
use Rattle.fl_parts.specs.Skipping.{AreScanning, HoldGood}
use Rattle.fl_table.specs.Standing.{Stands}
use Rattle.fl_table.specs.declared.table.Table.{Table}
use Rattle.fl_cursor.specs.Asked.{asked_by, is_left}
use Rattle.fl_cursor.specs.Listed.{bytes_at, rows_from, rows_of}
use Rattle.fl_cursor.specs.declared.bookmark.Bookmark.{Bookmark}
use Rattle.fl_cursor.specs.declared.place.Place.{Place}
use Rattle.fl_cursor.specs.declared.place.Place.TheVariants.{Start, Pages, InPage, Pending, Ended}
use Rattle.fl_cursor.specs.declared.place.Here.{Here}
use Rattle.fl_cursor.specs.declared.place.Here.TheVariants.{Nowhere, PageRow, PendingRow}
use Rattle.fl_cursor.specs.declared.cursor.Cursor.{Cursor}

abbrev pub table_of : {KNOTS SLOTS : ℕ} → Cursor KNOTS SLOTS → Table KNOTS SLOTS
table_of cursor = cursor.table.now

-- what it keeps of itself
abbrev pub mark_of : {KNOTS SLOTS : ℕ} → Cursor KNOTS SLOTS → Bookmark
mark_of cursor = cursor.mark

-- the cursor of the model that it is
abbrev pub asked_of : {KNOTS SLOTS : ℕ} → Cursor KNOTS SLOTS → model.Cursor
asked_of cursor = asked_by cursor.mark

-- its references to the buffers of rows and of index pages, and what these hold
abbrev pub rows_name : {KNOTS SLOTS : ℕ} → Cursor KNOTS SLOTS → GName
rows_name cursor = cursor.rows_buf.ghost_name

abbrev pub index_name : {KNOTS SLOTS : ℕ} → Cursor KNOTS SLOTS → GName
index_name cursor = cursor.index_buf.ghost_name

abbrev pub rows_page : {KNOTS SLOTS : ℕ} → Cursor KNOTS SLOTS → BufferState
rows_page cursor = cursor.rows_buf.now

abbrev pub index_page : {KNOTS SLOTS : ℕ} → Cursor KNOTS SLOTS → BufferState
index_page cursor = cursor.index_buf.now

-- the bytes in its buffer of rows
abbrev pub buffer_of : {KNOTS SLOTS : ℕ} → Cursor KNOTS SLOTS → List ℕ
buffer_of cursor = cursor.rows_buf.now.bytes

abbrev pub place_of : {KNOTS SLOTS : ℕ} → Cursor KNOTS SLOTS → Place
place_of cursor = cursor.place

abbrev pub here_of : {KNOTS SLOTS : ℕ} → Cursor KNOTS SLOTS → Here
here_of cursor = cursor.here

-- it found that no row is left
abbrev pub is_end : Place → Bool
is_end Ended = true
is_end Start = false
is_end (Pages next) = false
is_end (InPage number row) = false
is_end (Pending row) = false

abbrev pub has_ended : {KNOTS SLOTS : ℕ} → Cursor KNOTS SLOTS → Bool
has_ended cursor = is_end cursor.place

-- ---- the present row

abbrev pub is_here_at : {KNOTS SLOTS : ℕ} → Table KNOTS SLOTS → List ℕ → Here → Bool
is_here_at t page Nowhere = false
is_here_at t page (PageRow number row) = has_form (layout_in t) number page && nat_lt row (page_count page) && nat_le (length page) 4096
is_here_at t page (PendingRow row) = nat_lt row (pending_in t)

-- whether there is one
abbrev pub is_here : {KNOTS SLOTS : ℕ} → Cursor KNOTS SLOTS → Bool
is_here cursor = is_here_at (table_of cursor) (buffer_of cursor) cursor.here

abbrev no_row : Row
no_row = record { key = 0; values = []; blob = None }

abbrev pub row_at : {KNOTS SLOTS : ℕ} → Table KNOTS SLOTS → List ℕ → Here → Row
row_at t page Nowhere = no_row
row_at t page (PageRow number row) = unwrap_or (slice_get (rows_in (layout_in t) page) row) no_row
row_at t page (PendingRow row) = unwrap_or (slice_get (buffered_rows t) row) no_row

abbrev pub present_of : {KNOTS SLOTS : ℕ} → Cursor KNOTS SLOTS → Row
present_of cursor = row_at (table_of cursor) (buffer_of cursor) cursor.here

-- ---- the rows left

-- the rows from a place on
abbrev pub rows_behind : {KNOTS SLOTS : ℕ} → Table KNOTS SLOTS → Contents → List ℕ → Place → List Row
rows_behind t contents page Start = rows_of t contents
rows_behind t contents page (Pages next) = rows_from t contents next
rows_behind t contents page (InPage number row) = drop row (rows_in (layout_in t) page) ++ rows_from t contents (number + 1)
rows_behind t contents page (Pending row) = drop row (buffered_rows t)
rows_behind t contents page Ended = []

abbrev pub ahead_of : {KNOTS SLOTS : ℕ} → Cursor KNOTS SLOTS → Contents → List Row
ahead_of cursor contents = rows_behind (table_of cursor) contents (buffer_of cursor) cursor.place

-- the rows that it has still to give, among all rows of the table
abbrev pub left_of : {KNOTS SLOTS : ℕ} → Cursor KNOTS SLOTS → Contents → List Row
left_of cursor contents = filter (is_left (asked_of cursor)) (rows_of (table_of cursor) contents)

-- none of the rows before these is still to be given
pub record Passes (cursor : model.Cursor) (rows ahead : List Row) : Type 0 where
  pub before : List Row
  pub split : rows ≡ before ++ ahead
  pub passed : AllByRecursion (λ row. is_left cursor row ≡ false) before

-- a flash that holds this stands for the table
pub record IsStanding {KNOTS SLOTS : ℕ} (t : Table KNOTS SLOTS) (contents : Contents) : Type 0 where
  pub flash : FlashState
  pub same : contents_of flash ≡ contents
  pub tells : IsTrue flash.media.tells
  pub reaches : flash.start + extent flash.geometry flash.blocks ≤ length flash.media.content
  pub lies : LiesOn t flash
  pub first : ℕ
  pub plan : Plan
  pub table : tables.Table
  pub stands : Stands t flash first plan table

-- a kept index page that a buffer holds has the bytes that stand on the flash
abbrev pub AreFreshIn : Option BitmapIndex → Contents → BufferState → Type 0
AreFreshIn None contents buf = Unit {0}
AreFreshIn (Some index) contents buf =
    (number : ℕ) → IsHeld index number buf → buf.bytes ≡ page_of contents.bytes contents.start contents.geometry.page (place_in index number)

-- the buffer of index pages goes with the place: it holds none, or the one that was looked at last
abbrev pub IsLooking : Option BitmapIndex → Place → BufferState → Type 0
IsLooking bitmaps Start buf = AreScanning bitmaps 0 buf
IsLooking bitmaps (Pages next) buf = AreScanning bitmaps next buf
IsLooking bitmaps (InPage number row) buf = AreScanning bitmaps (number + 1) buf
IsLooking bitmaps (Pending row) buf = Unit {0}
IsLooking bitmaps Ended buf = Unit {0}

-- the rows left are told over such a flash
pub record IsTold {KNOTS SLOTS : ℕ} (cursor : Cursor KNOTS SLOTS) (contents : Contents) : Type 0 where
  pub standing : IsStanding (table_of cursor) contents
  pub ascends : Ascends None (rows_of (table_of cursor) contents)
  pub passes : Passes (asked_of cursor) (rows_of (table_of cursor) contents) (ahead_of cursor contents)
  pub fresh : AreFreshIn (index_in (table_of cursor)) contents (index_page cursor)
  pub looking : IsLooking (index_in (table_of cursor)) cursor.place (index_page cursor)

-- ---- going over a flash

-- the place is one of the table, and a page that the place is in is in the buffer
abbrev pub IsPlaced : {KNOTS SLOTS : ℕ} → Table KNOTS SLOTS → List ℕ → Place → Type 0
IsPlaced t page Start = is_running t ≡ true
IsPlaced t page (Pages next) = (oldest_in t ≤ next) × (next ≤ next_in t)
IsPlaced t page (InPage number row) =
    (oldest_in t ≤ number) × (number < next_in t) × IsGoodPage (layout_in t) number page × (row ≤ page_count page)
IsPlaced t page (Pending row) = row ≤ pending_in t
IsPlaced t page Ended = Unit {0}

-- the table lies on a flash of this shape, and each buffer has room for one of its pages
pub record IsReady {KNOTS SLOTS : ℕ} (cursor : Cursor KNOTS SLOTS) (contents : Contents) : Type 0 where
  pub flash : FlashState
  pub same : contents_of flash ≡ contents
  pub lies : LiesOn (table_of cursor) flash
  pub rows_room : length cursor.rows_buf.now.bytes ≡ contents.geometry.page
  pub index_room : length cursor.index_buf.now.bytes ≡ contents.geometry.page
  pub placed : IsPlaced (table_of cursor) (buffer_of cursor) cursor.place
  -- an index page that is held isn't a bad one
  pub index_good : HoldGood (index_in (table_of cursor)) (index_page cursor)

-- Where the flash tells its bytes, the page at the place of the kept number that was wanted is committed, and has
-- another number or a count that no page has.
pub record IsBadPage {KNOTS SLOTS : ℕ} (t : Table KNOTS SLOTS) (contents : Contents) (bad : BadPage) : Type 0 where
  pub from : oldest_in t ≤ bad.wanted
  pub before : bad.wanted < next_in t
  pub committed : state_of_page (bytes_at t contents bad.wanted) ≡ Committed
  pub not_good : IsGoodPage (layout_in t) bad.wanted (bytes_at t contents bad.wanted) → ⊥
  pub told : bad ≡ bad_page bad.wanted (bytes_at t contents bad.wanted)

-- .. or the page at the place of a kept index page is, and has another number or another count than an index page
abbrev pub index_bytes : BitmapIndex → Contents → ℕ → List ℕ
index_bytes index contents number = page_of contents.bytes contents.start contents.geometry.page (place_in index number)

pub record IsBadIndexPage (index : BitmapIndex) (contents : Contents) (bad : BadPage) : Type 0 where
  pub from : indexes.oldest_in index ≤ bad.wanted
  pub before : bad.wanted < indexes.next_in index
  pub committed : state_of_page (index_bytes index contents bad.wanted) ≡ Committed
  pub not_good : index_pages.IsGoodPage (per_page index) bad.wanted (index_bytes index contents bad.wanted) → ⊥
  pub told : bad ≡ looking.bad_page bad.wanted (index_bytes index contents bad.wanted)

abbrev pub AreBadIn : Option BitmapIndex → Contents → BadPage → Type 0
AreBadIn None contents bad = ⊥
AreBadIn (Some index) contents bad = IsBadIndexPage index contents bad

abbrev pub MayBeBad : {KNOTS SLOTS : ℕ} → Table KNOTS SLOTS → Contents → BadPage → Type 0
MayBeBad t contents bad = IsTrue contents.tells → IsBadPage t contents bad ⊎ AreBadIn (index_in t) contents bad

-- a fault that is about a page says this
abbrev pub IfBad : (BadPage → Type 0) → ReadFault → Type 0
IfBad P (fault.Flash e) = Unit {0}
IfBad P (fault.BadPage bad) = P bad
