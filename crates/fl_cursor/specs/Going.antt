-- What a part of a step makes of a cursor.
use Rattle.std.specs.Prelude.{◌≡◌, ℕ, ◌+◌, ◌-◌, ◌^◌, ◌<◌, ◌≤◌, Bool, true, false, Some, List, ◌∷◌, length, if◌then◌else◌}
use Rattle.std.specs.Bool.{OnFalse}
use Rattle.fl_model.specs.Row.{Row}
use Rattle.fl_frame.specs.Contents.{Contents}
use Rattle.fl_table.specs.Look.{oldest_in}
use Rattle.fl_table.specs.Memory.{next_in}
use Rattle.fl_table.specs.declared.table.Table.{Table}
use Rattle.fl_cursor.specs.Asked.{is_left, is_last}
use Rattle.fl_cursor.specs.Cursor.{table_of, mark_of, asked_of, place_of, here_of, is_here, has_ended, present_of, left_of, IsReady, IsTold}
use Rattle.fl_cursor.specs.Reads.{most_of, least_of}
use Rattle.fl_cursor.specs.declared.place.Here.{Here}
use Rattle.fl_cursor.specs.declared.place.Place.{Place}
use Rattle.fl_cursor.specs.declared.place.Place.TheVariants.{Start, Pages, InPage, Pending, Ended}
use Rattle.fl_cursor.specs.declared.cursor.Cursor.{Cursor}

-- it holds the same table and the same references
pub record Keeps {KNOTS SLOTS : ℕ} (old new : Cursor KNOTS SLOTS) : Type 0 where
  pub table : new.table ≡ old.table
  pub rows_name : new.rows_buf.ghost_name ≡ old.rows_buf.ghost_name
  pub rows_room : length new.rows_buf.now.bytes ≡ length old.rows_buf.now.bytes
  pub index_name : new.index_buf.ghost_name ≡ old.index_buf.ghost_name
  pub index_room : length new.index_buf.now.bytes ≡ length old.index_buf.now.bytes

-- The key of a row that was taken is the key given last, and nothing else is noted.
abbrev pub Notes : {KNOTS SLOTS : ℕ} → Bool → Cursor KNOTS SLOTS → Cursor KNOTS SLOTS → Type 0
Notes false old new = mark_of new ≡ mark_of old
Notes true old new =
    (mark_of new ≡ record (mark_of old) { after = Some (present_of new).key })
    × (is_left (asked_of old) (present_of new) ≡ true) × (is_here new ≡ true) × ((present_of new).key < 2 ^ 64)

-- It took the row with this key, and goes on from the place where a greater one may be given.
abbrev pub took : {KNOTS SLOTS : ℕ} → ℕ → Here → Place → Cursor KNOTS SLOTS → Cursor KNOTS SLOTS
took key here place cursor = record cursor {
  mark = record cursor.mark { after = Some key };
  here = here;
  place = if is_last cursor.mark.top key then Ended else place;
}

-- A row that was taken is the first of those left; else they stay.
abbrev pub Gives : Bool → List Row → Row → List Row → Type 0
Gives true before row after = before ≡ row ∷ after
Gives false before row after = after ≡ before

-- how many pages a place may still go to
abbrev pub pages_left : {KNOTS SLOTS : ℕ} → Table KNOTS SLOTS → Place → ℕ
pages_left t Start = 1 + (next_in t - oldest_in t)
pages_left t (Pages next) = 1 + (next_in t - next)
pages_left t (InPage number row) = next_in t - number
pages_left t (Pending row) = 0
pages_left t Ended = 0

-- the place isn't known yet
abbrev pub is_start : Place → Bool
is_start Start = true
is_start (InPage number row) = false
is_start (Pages next) = false
is_start (Pending row) = false
is_start Ended = false

-- the place is in a page, or in front of one
abbrev pub is_in_page : Place → Bool
is_in_page (InPage number row) = true
is_in_page Start = false
is_in_page (Pages next) = false
is_in_page (Pending row) = false
is_in_page Ended = false

abbrev pub is_at_pages : Place → Bool
is_at_pages Start = true
is_at_pages (InPage number row) = true
is_at_pages (Pages next) = true
is_at_pages (Pending row) = false
is_at_pages Ended = false

-- Where a step in the page in hand leads: behind a page that is left, or to the end; at a place outside pages it leads nowhere.
pub record StepsInPage {KNOTS SLOTS : ℕ} (taken : Bool) (old new : Cursor KNOTS SLOTS) : Type 0 where
  pub here : OnFalse taken (here_of new ≡ here_of old)
  pub begun : is_start (place_of new) ≡ false
  pub outside : OnFalse taken (is_in_page (place_of new) ≡ false)
  pub fewer : pages_left (table_of old) (place_of new) ≤ pages_left (table_of old) (place_of old)
  pub stays_ended : has_ended old ≡ true → (taken ≡ false) × (has_ended new ≡ true)
  pub behind : is_at_pages (place_of old) ≡ false → (taken ≡ false) × (is_at_pages (place_of new) ≡ false)

-- It went on, and took a row or didn't; the count of reads rose from one number to another.
pub record Goes {KNOTS SLOTS : ℕ} (taken : Bool) (contents : Contents) (reads : ℕ) (old : Cursor KNOTS SLOTS) (reads_now : ℕ) (new : Cursor KNOTS SLOTS) : Type 0 where
  pub keeps : Keeps old new
  pub notes : Notes taken old new
  pub ready : (held : Contents) → IsReady old held → IsReady new held
  pub told : IsTold old contents → IsTold new contents
  pub gives : IsTold old contents → Gives taken (left_of old contents) (present_of new) (left_of new contents)
  pub most : IsTold old contents → reads_now + most_of new contents ≤ reads + most_of old contents
  pub fewer : IsTold old contents → most_of new contents ≤ most_of old contents
  pub later : reads_now < 2 ^ 64 - 1 → reads ≤ reads_now
  pub least : IsTold old contents → reads_now < 2 ^ 64 - 1 → reads + least_of old contents ≤ reads_now + least_of new contents

-- A read failed: the key given last stays, and no more reads are left than before.
pub record Fails {KNOTS SLOTS : ℕ} (contents : Contents) (reads : ℕ) (old : Cursor KNOTS SLOTS) (reads_now : ℕ) (new : Cursor KNOTS SLOTS) : Type 0 where
  pub keeps : Keeps old new
  pub notes : mark_of new ≡ mark_of old
  pub ready : (held : Contents) → IsReady old held → IsReady new held
  pub told : IsTold old contents → IsTold new contents
  pub most : IsTold old contents → reads_now ≤ reads + most_of old contents
  pub fewer : IsTold old contents → most_of new contents ≤ most_of old contents
