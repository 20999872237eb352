-- A cursor that takes a row, or goes on to another place.
use Rattle.std.proofs.Common.{◌≡◌, ℕ, zero, suc, ◌+◌, ◌^◌, ◌<◌, ◌≤◌, Bool, true, false, cond, Some, ◌∷◌, filter, refl, sym, ◌∙◌, ap, subst, arith}
use Rattle.std.specs.List.{list_any}
use Rattle.fl_model.specs.Query as model
use Rattle.fl_model.specs.Row.{Row}
use Rattle.fl_frame.specs.Contents.{Contents}
use Rattle.fl_table.specs.declared.table.Table.{Table}
use Rattle.fl_cursor.specs.Asked.{is_left, is_asked, is_last}
use Rattle.fl_cursor.specs.Cursor.{table_of, asked_of, buffer_of, is_here_at, row_at, index_page, rows_behind, Passes, IsPlaced, IsTold, IsLooking}
use Rattle.fl_cursor.specs.Going.{Goes, took}
use Rattle.fl_cursor.specs.Listed.{rows_on, rows_of}
use Rattle.fl_cursor.specs.Reads.{most_from, least_from, pages_asked}
use Rattle.fl_cursor.specs.declared.cursor.Cursor.{Cursor}
use Rattle.fl_cursor.specs.declared.place.Here.{Here}
use Rattle.fl_cursor.specs.declared.place.Place.{Place}
use Rattle.fl_cursor.specs.declared.place.Place.TheVariants.{Ended}
use Rattle.fl_cursor.proofs.PassedRows.{passes-taken, passes-end, passes-above, gives-taken, none-past, taken}

-- what is asked for doesn't change with the key given last
pub pages-taken : {KNOTS SLOTS : ℕ} (t : Table KNOTS SLOTS) (contents : Contents) (asked : model.Cursor) (key n number : ℕ) → pages_asked t contents (taken asked key) number n ≡ pages_asked t contents asked number n
pages-taken t contents asked key zero number = refl
pages-taken t contents asked key (suc n) number = ap (λ m. cond (list_any (is_asked asked) (rows_on t contents number)) 1 0 + m) (pages-taken t contents asked key n (number + 1))

module _ {KNOTS SLOTS : ℕ} (old : Cursor KNOTS SLOTS) (contents : Contents) (reads : ℕ) (place : Place) (placed : IsPlaced (table_of old) (buffer_of old) place) where
  -- it goes on from another place, and the rows before that are passed
  pub moves-on : (IsTold old contents → Passes (asked_of old) (rows_of (table_of old) contents) (rows_behind (table_of old) contents (buffer_of old) place)) → (IsTold old contents → IsLooking (table_of old).bitmaps place (index_page old)) →
      (IsTold old contents → most_from (table_of old) contents (asked_of old) (index_page old) (buffer_of old) place ≤ most_from (table_of old) contents (asked_of old) (index_page old) (buffer_of old) old.place) →
      (IsTold old contents → least_from (table_of old) contents (asked_of old) (index_page old) old.place ≤ least_from (table_of old) contents (asked_of old) (index_page old) place) →
      Goes false contents reads old reads (record old { place = place })
  moves-on passes looking most least = record {
    keeps = record { table = refl; rows_name = refl; rows_room = refl; index_name = refl; index_room = refl };
    notes = refl;
    ready = λ held h. record { flash = h.flash; same = h.same; lies = h.lies; rows_room = h.rows_room; index_room = h.index_room; placed = placed; index_good = h.index_good };
    told = λ told. record { standing = told.standing; ascends = told.ascends; passes = passes told; fresh = told.fresh; looking = looking told };
    gives = λ told. refl;
    most = λ told. let le = most told in omega (arith, le);
    fewer = most;
    later = λ lt. omega arith;
    least = λ told lt. let le = least told in omega (arith, le);
  }

  -- it takes the row that is here, and goes on from the place behind that
  pub takes-row : (here : Here) (row : Row) → row_at (table_of old) (buffer_of old) here ≡ row → is_here_at (table_of old) (buffer_of old) here ≡ true → is_left (asked_of old) row ≡ true → row.key < 2 ^ 64 →
      (IsTold old contents → Passes (asked_of old) (rows_of (table_of old) contents) (row ∷ rows_behind (table_of old) contents (buffer_of old) place)) → (IsTold old contents → IsLooking (table_of old).bitmaps place (index_page old)) →
      (IsTold old contents → is_last (asked_of old).top row.key ≡ false →
      most_from (table_of old) contents (taken (asked_of old) row.key) (index_page old) (buffer_of old) place ≤ most_from (table_of old) contents (asked_of old) (index_page old) (buffer_of old) old.place) →
      (IsTold old contents → least_from (table_of old) contents (asked_of old) (index_page old) old.place ≤ least_from (table_of old) contents (taken (asked_of old) row.key) (index_page old) place) →
      (IsTold old contents → is_last (asked_of old).top row.key ≡ true → least_from (table_of old) contents (asked_of old) (index_page old) old.place ≡ 0) →
      Goes true contents reads old reads (took row.key here place old)
  takes-row here row present is_here left small passes looking most least end = record {
    keeps = record { table = refl; rows_name = refl; rows_room = refl; index_name = refl; index_room = refl };
    notes = (
      ap (λ (r : Row). record old.mark { after = Some r.key }) (sym present),
      subst (λ (r : Row). is_left (asked_of old) r ≡ true) (sym present) left,
      is_here,
      subst (λ (r : Row). r.key < 2 ^ 64) (sym present) small,
    );
    ready = λ held h. record { flash = h.flash; same = h.same; lies = h.lies; rows_room = h.rows_room; index_room = h.index_room; index_good = h.index_good; placed = placed_by (is_last (asked_of old).top row.key) };
    told = λ told. record { standing = told.standing; ascends = told.ascends; passes = passes_by told (is_last (asked_of old).top row.key) refl; fresh = told.fresh; looking = looking_by told (is_last (asked_of old).top row.key) };
    gives = λ told.
        gives-taken (asked_of old) (rows_of (table_of old) contents) (rows_behind (table_of old) contents (buffer_of old) place) row told.ascends (passes told) left
        ∙ ap (λ (r : Row). r ∷ filter (is_left (taken (asked_of old) row.key)) (rows_of (table_of old) contents)) (sym present);
    most = λ told. let le = most_by told (is_last (asked_of old).top row.key) refl in omega (arith, le);
    fewer = λ told. most_by told (is_last (asked_of old).top row.key) refl;
    later = λ lt. omega arith;
    least = λ told lt. least_by told (is_last (asked_of old).top row.key) refl;
  }
    where
      placed_by : (b : Bool) → IsPlaced (table_of old) (buffer_of old) (cond b Ended place)
      placed_by true = tt
      placed_by false = placed

      looking_by : IsTold old contents → (b : Bool) → IsLooking (table_of old).bitmaps (cond b Ended place) (index_page old)
      looking_by told true = tt
      looking_by told false = looking told

      passes_by : IsTold old contents → (b : Bool) → is_last (asked_of old).top row.key ≡ b →
          Passes (taken (asked_of old) row.key) (rows_of (table_of old) contents) (rows_behind (table_of old) contents (buffer_of old) (cond b Ended place))
      passes_by told true last =
          let ahead = rows_behind (table_of old) contents (buffer_of old) place in
          passes-end (taken (asked_of old) row.key) (rows_of (table_of old) contents) ahead (passes-taken (asked_of old) (rows_of (table_of old) contents) ahead row (passes told) left)
          (none-past (taken (asked_of old) row.key) row.key ahead last (passes-above (asked_of old) (rows_of (table_of old) contents) ahead row told.ascends (passes told)))
      passes_by told false last = passes-taken (asked_of old) (rows_of (table_of old) contents) (rows_behind (table_of old) contents (buffer_of old) place) row (passes told) left

      most_by : IsTold old contents → (b : Bool) → is_last (asked_of old).top row.key ≡ b →
          most_from (table_of old) contents (taken (asked_of old) row.key) (index_page old) (buffer_of old) (cond b Ended place) ≤ most_from (table_of old) contents (asked_of old) (index_page old) (buffer_of old) old.place
      most_by told true last = omega arith
      most_by told false last = most told last

      least_by : IsTold old contents → (b : Bool) → is_last (asked_of old).top row.key ≡ b →
          reads + least_from (table_of old) contents (asked_of old) (index_page old) old.place ≤ reads + least_from (table_of old) contents (taken (asked_of old) row.key) (index_page old) (cond b Ended place)
      least_by told true last = let e = end told last in omega (arith, e)
      least_by told false last = let le = least told in omega (arith, le)
