-- No page that a cursor looks at, from its place on, is bad.
use Rattle.std.specs.Prelude.{◌≡◌, ◌⊎◌, ℕ, zero, suc, ◌+◌, ◌-◌, true, false, IsTrue, Option, Some, None, List, drop}
use Rattle.fl_base.specs.declared.types.Span.{Span}
use Rattle.fl_find.specs.Looking.{IsSound}
use Rattle.fl_find.specs.Pages as pages
use Rattle.fl_flash.specs.Places.{page_of}
use Rattle.fl_frame.specs.Contents.{Contents}
use Rattle.fl_model.specs.Query as model
use Rattle.fl_model.specs.Query.{is_up_to}
use Rattle.fl_model.specs.Row.{Row}
use Rattle.fl_page.specs.Page.{rows_in}
use Rattle.fl_table.specs.Finding.{IsPageFor, end_in}
use Rattle.fl_table.specs.Look.{buckets_in, buffered_rows, layout_in, oldest_in, rows_noted, index_in}
use Rattle.fl_table.specs.Memory.{next_in}
use Rattle.fl_parts.specs.Skipping.{IsLookedUp, IsToldBy}
use Rattle.fl_parts.specs.declared.ahead.Ahead.{Ahead}
use Rattle.fl_parts.specs.declared.ahead.Ahead.TheVariants.{Missed, Beyond}
use Rattle.fl_table.specs.declared.table.Table.{Table}
use Rattle.fl_cursor.specs.Asked.{lowest_of}
use Rattle.fl_cursor.specs.Cursor.{AreFreshIn, asked_of, buffer_of, index_page, place_of, table_of}
use Rattle.fl_cursor.specs.Listed.{bytes_at}
use Rattle.fl_cursor.specs.Reads.{begins_by, has_last}
use Rattle.fl_cursor.specs.declared.cursor.Cursor.{Cursor}
use Rattle.fl_cursor.specs.declared.place.Place.{Place}
use Rattle.fl_cursor.specs.declared.place.Place.TheVariants.{Start, Pages, InPage, Pending, Ended}

-- the pages of a flash that holds this
abbrev pub pages_in : Contents → ℕ → List ℕ
pages_in contents = page_of contents.bytes contents.start contents.geometry.page

-- a kept page isn't bad
abbrev pub IsSoundAt : {KNOTS SLOTS : ℕ} → Table KNOTS SLOTS → Contents → ℕ → Type 0
IsSoundAt t contents number = IsSound (layout_in t) number (bytes_at t contents number)

-- its rows, by its bytes alone; one that isn't committed has none
abbrev pub rows_told : {KNOTS SLOTS : ℕ} → Table KNOTS SLOTS → Contents → ℕ → List Row
rows_told t contents number = pages.rows_on (layout_in t) (bytes_at t contents number)

-- its index entry tells this of it
abbrev pub IsAhead : {KNOTS SLOTS : ℕ} → Table KNOTS SLOTS → Contents → Option Span → Option ℕ → ℕ → Ahead → Type 0
IsAhead t contents span top number ahead = IsToldBy (index_in t) (buckets_in t) (pages_in contents) span top number ahead

-- .. or, where values are asked for, no index page that is looked at for it is bad
abbrev pub IsLookedUpIn : {KNOTS SLOTS : ℕ} → Table KNOTS SLOTS → Contents → Option Span → ℕ → Type 0
IsLookedUpIn t contents span number = IsLookedUp (index_in t) (pages_in contents) span number

-- Of so many pages from this one on, each is passed because the table has noted no rows of it, or because its index entry tells that
-- none has a value that is asked for; or it is looked at, and neither it nor the index page that lists it is bad. They end early at one
-- whose entry tells that it begins above the last key that may be given, and behind one with a row behind which none may be given.
abbrev pub PagesSound : {KNOTS SLOTS : ℕ} → Table KNOTS SLOTS → Contents → Option Span → Option ℕ → ℕ → ℕ → Type 0
PagesSound t contents span top number zero = Unit {0}
PagesSound t contents span top number (suc n) =
    ((rows_noted t number ≡ 0) × PagesSound t contents span top (number + 1) n)
    ⊎ ((IsAhead t contents span top number Missed × PagesSound t contents span top (number + 1) n)
    ⊎ (IsAhead t contents span top number Beyond
    ⊎ (IsSoundAt t contents number × IsLookedUpIn t contents span number × (has_last top (rows_told t contents number) ≡ false → PagesSound t contents span top (number + 1) n))))

-- the number after the last page that may have a row up to the last key
abbrev pub pages_end : {KNOTS SLOTS : ℕ} → Table KNOTS SLOTS → Option ℕ → ℕ
pages_end t None = next_in t
pages_end t (Some top) = end_in t top

-- so are all pages from this one on
abbrev pub IsSoundFrom : {KNOTS SLOTS : ℕ} → Table KNOTS SLOTS → Contents → model.Cursor → ℕ → Type 0
IsSoundFrom t contents asked number = PagesSound t contents asked.span asked.top number (pages_end t asked.top - number)

-- .. behind a page with these rows, unless one of them is a last one
abbrev pub IsSoundBehind : {KNOTS SLOTS : ℕ} → Table KNOTS SLOTS → Contents → model.Cursor → ℕ → List Row → Type 0
IsSoundBehind t contents asked number rows = has_last asked.top rows ≡ false → IsSoundFrom t contents asked (number + 1)

-- .. from the page of the lowest key on, which is looked at, or else from the oldest one on
abbrev pub IsSoundOn : {KNOTS SLOTS : ℕ} → Table KNOTS SLOTS → Contents → model.Cursor → Option ℕ → Type 0
IsSoundOn t contents asked None = IsSoundFrom t contents asked (oldest_in t)
IsSoundOn t contents asked (Some number) = IsSoundAt t contents number × IsSoundBehind t contents asked number (rows_told t contents number)

-- that page is found
pub record IsSoundAll {KNOTS SLOTS : ℕ} (t : Table KNOTS SLOTS) (contents : Contents) (asked : model.Cursor) : Type 0 where
  pub page : Option ℕ
  pub is_page : IsPageFor t (pages_in contents) (lowest_of asked) page
  pub ahead : IsSoundOn t contents asked page

-- from a place on, where the buffer of rows holds this page
abbrev pub IsSoundFor : {KNOTS SLOTS : ℕ} → Table KNOTS SLOTS → Contents → model.Cursor → List ℕ → Place → Type 0
IsSoundFor t contents asked page Start = IsSoundAll t contents asked
IsSoundFor t contents asked page (Pages next) = IsSoundFrom t contents asked next
IsSoundFor t contents asked page (InPage number row) = IsSoundBehind t contents asked number (drop row (rows_in (layout_in t) page))
IsSoundFor t contents asked page (Pending row) = Unit {0}
IsSoundFor t contents asked page Ended = Unit {0}

-- No page that it looks at from now on is bad, where the flash tells its bytes and an index page that the buffer holds has those.
abbrev pub IsSoundAhead : {KNOTS SLOTS : ℕ} → Cursor KNOTS SLOTS → Contents → Type 0
IsSoundAhead cursor contents =
    IsTrue contents.tells → AreFreshIn (index_in (table_of cursor)) contents (index_page cursor) → IsSoundFor (table_of cursor) contents (asked_of cursor) (buffer_of cursor) (place_of cursor)

-- .. that one looks at which begins anew: it looks at pages where the lowest key may be given and isn't pending
abbrev pub IsSoundOver : {KNOTS SLOTS : ℕ} → Table KNOTS SLOTS → Contents → model.Cursor → Type 0
IsSoundOver t contents asked =
    IsTrue contents.tells → is_up_to asked.top (lowest_of asked) ≡ true → begins_by (lowest_of asked) (buffered_rows t) ≡ false → IsSoundAll t contents asked
