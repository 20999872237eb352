-- Rows that a cursor gives one after another, over any bytes.
use Rattle.std.proofs.Common.{◌≡◌, ℕ, Bool, true, Option, Some, Result, List, [], ◌∷◌, ◌++◌, map, sym, ◌∙◌, ap, subst}
use Rattle.std.proofs.lemmas.List.{map-append}
use Rattle.std.specs.List.{last_or}
use Rattle.fl_cursor.specs.Asked.{asked_by, is_left}
use Rattle.fl_cursor.specs.declared.bookmark.Bookmark.{Bookmark}
use Rattle.fl_model.specs.Query.{Cursor}
use Rattle.fl_model.specs.Row.{Row}
use Rattle.fl_model.proofs.Lists.{last_or-push}
use Rattle.fl_words.specs.Reply.{Reply}
use Rattle.fl_queries.specs.ListSays.{ListSays}
use Rattle.fl_queries.specs.Rows.{row_reply}
use Rattle.fl_queries.specs.RowsGiven.{AreGiven, AreRows, MovesOver, mark_behind}

-- the mark behind one row more
pub mark-more : (first mid new : Bookmark) (rows : List Row) (row : Row) → mid ≡ mark_behind first rows → new ≡ record mid { after = Some row.key } → new ≡ mark_behind first (rows ++ row ∷ [])
mark-more first mid new rows row at moved = moved ∙ (ap (λ (m : Bookmark). record m { after = Some row.key }) at ∙ ap (λ (o : Option ℕ). record first { after = o }) (sym last))
  where
    last : last_or first.after (map (λ (r : Row). r.key) (rows ++ row ∷ [])) ≡ Some row.key
    last = ap (last_or first.after) (map-append (λ (r : Row). r.key) rows (row ∷ [])) ∙ last_or-push first.after (map (λ (r : Row). r.key) rows) row.key

-- one row more that it has still to give behind those that it gave
given-more : (cursor : Cursor) (rows : List Row) (row : Row) → AreGiven cursor rows → is_left (record cursor { after = last_or cursor.after (map (λ (r : Row). r.key) rows) }) row ≡ true → AreGiven cursor (rows ++ row ∷ [])
given-more cursor [] row given left = (left, tt)
given-more cursor (x ∷ rows) row given left = (given.0, given-more (record cursor { after = Some x.key }) rows row given.1 left)

module _ (blobs : Bool) (first mid new : Bookmark) (lines : List Reply) (over : MovesOver blobs first mid lines) where
  -- it went on, and gave no more
  pub over-same : new ≡ mid → MovesOver blobs first new lines
  over-same same = record { are_rows = over.are_rows; mark_is = same ∙ over.mark_is }

  -- one more was given
  pub over-more : (row : Row) → new ≡ record mid { after = Some row.key } → is_left (asked_by mid) row ≡ true → MovesOver blobs first new (lines ++ row_reply blobs row ∷ [])
  over-more row moved left = record {
    are_rows = record {
      rows = over.are_rows.rows ++ row ∷ [];
      lines_are = ap (λ (l : List Reply). l ++ row_reply blobs row ∷ []) over.are_rows.lines_are ∙ sym (map-append (row_reply blobs) over.are_rows.rows (row ∷ []));
      given = given-more (asked_by first) over.are_rows.rows row over.are_rows.given (subst (λ (m : Bookmark). is_left (asked_by m) row ≡ true) over.mark_is left);
    };
    mark_is = mark-more first mid new over.are_rows.rows row over.mark_is moved;
  }

module _ {E : Type 0} (Ends : Bool → ℕ → Reply → Type 0) (told now : Option (List ℕ)) (result : Result (Unit {0}) E) (blobs with_notes : Bool) (first mark behind : Bookmark) (noted : blobs ≡ with_notes) (is : first ≡ mark) where
  -- the same marks by other names
  pub moves-by : (new : Bookmark) → behind ≡ new → ListSays (MovesOver blobs first behind) Ends told now result → ListSays (MovesOver with_notes mark new) Ends told now result
  moves-by new stays h =
      subst (λ (b : Bool). ListSays (MovesOver b mark new) Ends told now result) noted
      (subst (λ (m : Bookmark). ListSays (MovesOver blobs m new) Ends told now result) is
      (subst (λ (m : Bookmark). ListSays (MovesOver blobs first m) Ends told now result) stays h))

  -- .. of a cursor that isn't kept
  pub rows-by : ListSays (MovesOver blobs first behind) Ends told now result → ListSays (AreRows with_notes mark) Ends told now result
  rows-by h =
      subst (λ (b : Bool). ListSays (AreRows b mark) Ends told now result) noted
      (subst (λ (m : Bookmark). ListSays (AreRows blobs m) Ends told now result) is
      (record { lines = h.lines; are_lines = h.are_lines.are_rows; last = h.last; ends = h.ends; written = h.written }))
