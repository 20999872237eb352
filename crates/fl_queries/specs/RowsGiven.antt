-- The rows that a cursor gives, as lines, over any bytes and on any medium.
use Rattle.std.specs.Prelude.{◌≡◌, Bool, true, Some, List, [], ◌∷◌, map}
use Rattle.std.specs.List.{last_or}
use Rattle.fl_cursor.specs.Asked.{asked_by, is_left}
use Rattle.fl_cursor.specs.declared.bookmark.Bookmark.{Bookmark}
use Rattle.fl_model.specs.Query.{Cursor}
use Rattle.fl_model.specs.Row.{Row}
use Rattle.fl_words.specs.Reply.{Reply}
use Rattle.fl_queries.specs.Rows.{row_reply}

-- It gives them one after another, and each is one that it has still to give behind those before it: the key is in its range, the first
-- value in its span, and the key is above the one that it gave last and no greater than its last one.
abbrev pub AreGiven : Cursor → List Row → Type 0
AreGiven cursor [] = Unit {0}
AreGiven cursor (row ∷ rows) = (is_left cursor row ≡ true) × AreGiven (record cursor { after = Some row.key }) rows

-- where it stands behind them: nothing else of it is another
abbrev pub mark_behind : Bookmark → List Row → Bookmark
mark_behind mark rows = record mark { after = last_or mark.after (map (λ row. row.key) rows) }

-- these are the lines of rows that it gives from this mark on, with notes on their blobs or without
pub record AreRows (blobs : Bool) (mark : Bookmark) (lines : List Reply) : Type 0 where
  pub rows : List Row
  pub lines_are : lines ≡ map (row_reply blobs) rows
  pub given : AreGiven (asked_by mark) rows

-- .. and this is its mark behind them
pub record MovesOver (blobs : Bool) (mark new : Bookmark) (lines : List Reply) : Type 0 where
  pub are_rows : AreRows blobs mark lines
  pub mark_is : new ≡ mark_behind mark are_rows.rows
