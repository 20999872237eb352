-- A cursor in a page: it takes a row, or goes on behind the page.
use Rattle.std.proofs.Common.{◌≡◌, ℕ, suc, ◌+◌, ◌-◌, ◌^◌, ◌<◌, ◌≤◌, true, false, ◌&&◌, cond, nat_lt, nat_le, Option, Some, None, unwrap_or, List, [], ◌∷◌, ◌++◌, length, drop, refl, sym, ◌∙◌, ap, subst, arith}
use Rattle.std.specs.List.{slice_get}
use Rattle.std.proofs.lemmas.Bool.{lt-ltb, le-leb}
use Rattle.std.proofs.lemmas.List.{drop-drop}
use Rattle.std.proofs.lemmas.Option.{same_Some}
use Rattle.fl_model.specs.Row.{Row}
use Rattle.fl_model.proofs.Lists.{slice_get-drop, slice_get-short, each-back, each-front}
use Rattle.fl_frame.specs.Contents.{Contents}
use Rattle.fl_page.specs.Header.{page_count}
use Rattle.fl_page.specs.Page.{rows_in}
use Rattle.fl_page.proofs.RowsFrom.{length-rows_from}
use Rattle.fl_page.proofs.Views.{good-form}
use Rattle.fl_table.specs.Look.{layout_in, oldest_in, buffered_rows}
use Rattle.fl_table.specs.Memory.{next_in}
use Rattle.fl_parts.specs.Skipping.{AreScanning, due_of}
use Rattle.fl_cursor.specs.Asked.{is_left, is_last}
use Rattle.fl_cursor.specs.Cursor.{table_of, asked_of, buffer_of, index_page, is_here_at, rows_behind, Passes, IsPlaced, IsTold, IsLooking}
use Rattle.fl_cursor.specs.Going.{Goes, took}
use Rattle.fl_cursor.specs.Listed.{rows_from, rows_over, rows_of}
use Rattle.fl_cursor.specs.Reads.{has_last, pages_to_last, pages_asked, index_most, index_least, most_from, least_from}
use Rattle.fl_cursor.specs.Sought.{first_left}
use Rattle.fl_cursor.specs.declared.cursor.Cursor.{Cursor}
use Rattle.fl_cursor.specs.declared.place.Here.TheVariants.{PageRow}
use Rattle.fl_cursor.specs.declared.place.Place.TheVariants.{Pages, InPage, Ended}
use Rattle.fl_cursor.specs.declared.search.Sought.TheVariants.{Row as At, Behind, Nowhere}
use Rattle.fl_cursor.specs.declared.place.Place.{Place}
use Rattle.fl_cursor.proofs.IndexLookups.{due-nothing, looked-over}
use Rattle.fl_cursor.proofs.PassedRows.{passes-all, passes-same, passes-end, passes-above, none-past, taken, Above}
use Rattle.fl_cursor.proofs.TakenRows.{takes-row, moves-on, pages-taken}
use Rattle.fl_cursor.proofs.Walks.{reached, passed, stopped, asked-over}

-- the same row
pub same-row : (rows : List Row) (from j k : ℕ) (r row : Row) → k ≡ from + j → slice_get (drop from rows) j ≡ Some r → slice_get rows k ≡ Some row → r ≡ row
same-row rows from j k r row at one other =
    same_Some r row (sym one ∙ (slice_get-drop from rows j ∙ (ap (slice_get rows) (sym at) ∙ other)))

pub drop-same : (rows : List Row) (from j k : ℕ) → k ≡ from + j → drop (suc j) (drop from rows) ≡ drop (k + 1) rows
drop-same rows from j k at = drop-drop (suc j) from rows ∙ ap (λ n. drop n rows) (let e : from + suc j ≡ k + 1 = omega (arith, at) in e)

module _ {KNOTS SLOTS : ℕ} (old : Cursor KNOTS SLOTS) (number row : ℕ) (here_is : old.place ≡ InPage number row) (placed : IsPlaced (table_of old) (buffer_of old) (InPage number row)) (contents : Contents) (reads : ℕ) where
  abbrev rows : List Row
  rows = rows_in (layout_in old.table.now) old.rows_buf.now.bytes

  abbrev rest : List Row
  rest = rows_from old.table.now contents (number + 1)

  passes-here : IsTold old contents → Passes (asked_of old) (rows_of (table_of old) contents) (drop row rows ++ rest)
  passes-here told = passes-same (asked_of old) (rows_of (table_of old) contents) (rows_behind old.table.now contents old.rows_buf.now.bytes old.place) (drop row rows ++ rest)
      (ap (rows_behind old.table.now contents old.rows_buf.now.bytes) here_is) told.passes

  abbrev behind_most : ℕ
  behind_most =
      pages_to_last old.table.now contents old.mark.span old.mark.top (number + 1) (next_in old.table.now - (number + 1)) + index_most old.table.now contents (asked_of old) (index_page old) (number + 1)

  looking-here : IsTold old contents → AreScanning (table_of old).bitmaps (number + 1) (index_page old)
  looking-here told = subst (λ (p : Place). IsLooking (table_of old).bitmaps p (index_page old)) here_is told.looking

  most-here : most_from (table_of old) contents (asked_of old) (index_page old) (buffer_of old) old.place ≡ cond (has_last (asked_of old).top (drop row rows)) 0 behind_most
  most-here = ap (most_from (table_of old) contents (asked_of old) (index_page old) (buffer_of old)) here_is

  least-here : least_from (table_of old) contents (asked_of old) (index_page old) old.place ≡ pages_asked (table_of old) contents (asked_of old) (number + 1) (next_in (table_of old) - (number + 1)) + index_least (table_of old) contents (asked_of old) (index_page old) (number + 1)
  least-here = ap (least_from (table_of old) contents (asked_of old) (index_page old)) here_is

  -- no page behind the last key is asked for
  none-behind : (key : ℕ) (front : List Row) → is_last (asked_of old).top key ≡ true → Above key (front ++ rest) → least_from (table_of old) contents (asked_of old) (index_page old) old.place ≡ 0
  none-behind key front last above =
      let behind = each-back (λ r. key < r.key) front rest above in
      let over = each-front (λ r. key < r.key) (rows_over (table_of old) contents (number + 1) (next_in (table_of old) - (number + 1))) (buffered_rows (table_of old)) behind in
      let asked = asked-over (table_of old) contents (asked_of old) key (next_in (table_of old) - (number + 1)) (number + 1) last over in
      let looked : index_least (table_of old) contents (asked_of old) (index_page old) (number + 1) ≡ 0 =
      ap (λ (numbers : List ℕ). due_of (asked_of old).span (table_of old).bitmaps numbers (index_page old)) (looked-over (table_of old) contents (asked_of old).top key (next_in (table_of old) - (number + 1)) (number + 1) last over)
      ∙ due-nothing (asked_of old).span (table_of old).bitmaps (index_page old) in
      omega (arith, least-here, asked, looked)

  pub page-taken : length (buffer_of old) ≤ 4096 → (k : ℕ) (found : Row) → slice_get rows k ≡ Some found → At k ≡ first_left (asked_of old) (drop row rows) row → found.key < 2 ^ 64 →
      Goes true contents reads old reads (took found.key (PageRow number k) (InPage number (k + 1)) old)
  page-taken short k found here search small =
      let free = reached (asked_of old) (drop row rows ++ []) (drop row rows) [] row k (passes-all (asked_of old) (drop row rows ++ [])) search in
      let left : is_left (asked_of old) found ≡ true = subst (λ (r : Row). is_left (asked_of old) r ≡ true) (same-row rows row free.j k free.row found free.at free.here here) free.left in
      let within : k < page_count (buffer_of old) = omega (arith, slice_get-short rows k found here, length-rows_from (page_count (buffer_of old)) (layout_in (table_of old)) (drop 16 (buffer_of old))) in
      takes-row old contents reads (InPage number (k + 1)) (placed.0, placed.1, placed.2, omega (arith, within)) (PageRow number k) found
      (ap (λ (o : Option Row). unwrap_or o (record { key = 0; values = []; blob = None })) here)
      (is-here within short) left small
      (λ told. told-row told k found here search)
      looking-here
      (λ told last. told-most told k found here search last)
      (λ told. let same = pages-taken (table_of old) contents (asked_of old) found.key (next_in (table_of old) - (number + 1)) (number + 1) in
      let looked : index_least (table_of old) contents (taken (asked_of old) found.key) (index_page old) (number + 1) ≡ index_least (table_of old) contents (asked_of old) (index_page old) (number + 1) = refl in
      omega (arith, least-here, same, looked))
      (λ told last. none-behind found.key (drop (k + 1) rows) last (passes-above (asked_of old) (rows_of (table_of old) contents) (drop (k + 1) rows ++ rest) found told.ascends (told-row told k found here search)))
    where
      is-here : {k : ℕ} → k < page_count (buffer_of old) → length (buffer_of old) ≤ 4096 → is_here_at (table_of old) (buffer_of old) (PageRow number k) ≡ true
      is-here {k} within short =
          ap (λ b. (b && nat_lt k (page_count (buffer_of old))) && nat_le (length (buffer_of old)) 4096) (good-form (layout_in (table_of old)) number (buffer_of old) placed.2)
          ∙ (ap (λ b. b && nat_le (length (buffer_of old)) 4096) (lt-ltb k (page_count (buffer_of old)) within) ∙ le-leb (length (buffer_of old)) 4096 short)

      told-row : IsTold old contents → (k : ℕ) (found : Row) → slice_get rows k ≡ Some found → At k ≡ first_left (asked_of old) (drop row rows) row →
          Passes (asked_of old) (rows_of (table_of old) contents) (found ∷ (drop (k + 1) rows ++ rest))
      told-row told k found here search =
          let h = reached (asked_of old) (rows_of (table_of old) contents) (drop row rows) rest row k (passes-here told) search in
          passes-same (asked_of old) (rows_of (table_of old) contents) (h.row ∷ (drop (suc h.j) (drop row rows) ++ rest)) (found ∷ (drop (k + 1) rows ++ rest))
          (ap (λ (r : Row). r ∷ (drop (suc h.j) (drop row rows) ++ rest)) (same-row rows row h.j k h.row found h.at h.here here)
          ∙ ap (λ (xs : List Row). found ∷ (xs ++ rest)) (drop-same rows row h.j k h.at)) h.passes

      told-most : IsTold old contents → (k : ℕ) (found : Row) → slice_get rows k ≡ Some found → At k ≡ first_left (asked_of old) (drop row rows) row → is_last (asked_of old).top found.key ≡ false →
          most_from (table_of old) contents (taken (asked_of old) found.key) (index_page old) (buffer_of old) (InPage number (k + 1)) ≤ most_from (table_of old) contents (asked_of old) (index_page old) (buffer_of old) old.place
      told-most told k found here search last =
          let h = reached (asked_of old) (rows_of (table_of old) contents) (drop row rows) rest row k (passes-here told) search in
          let not_last : is_last (asked_of old).top h.row.key ≡ false = ap (λ (r : Row). is_last (asked_of old).top r.key) (same-row rows row h.j k h.row found h.at h.here here) ∙ last in
          let same : has_last (asked_of old).top (drop row rows) ≡ has_last (asked_of old).top (drop (k + 1) rows) = h.last not_last ∙ ap (has_last (asked_of old).top) (drop-same rows row h.j k h.at) in
          let most : most_from (table_of old) contents (asked_of old) (index_page old) (buffer_of old) old.place ≡ most_from (table_of old) contents (taken (asked_of old) found.key) (index_page old) (buffer_of old) (InPage number (k + 1)) =
          most-here ∙ ap (λ b. cond b 0 behind_most) same in
          omega (arith, most)

  pub page-behind : Behind ≡ first_left (asked_of old) (drop row rows) row → Goes false contents reads old reads (record old { place = Pages (number + 1) })
  page-behind search =
      let from : oldest_in (table_of old) ≤ number + 1 = omega (arith, placed.0) in
      let to : number + 1 ≤ next_in (table_of old) = omega (arith, placed.1) in
      moves-on old contents reads (Pages (number + 1)) (from, to)
      (λ told. (passed (asked_of old) (rows_of (table_of old) contents) (drop row rows) rest row (passes-here told) search).passes)
      looking-here
      (λ told.
      let h = passed (asked_of old) (rows_of (table_of old) contents) (drop row rows) rest row (passes-here told) search in
      let most = most-here ∙ ap (λ b. cond b 0 behind_most) h.last in
      omega (arith, most))
      (λ told. omega (arith, least-here))

  pub page-nowhere : Nowhere ≡ first_left (asked_of old) (drop row rows) row → Goes false contents reads old reads (record old { place = Ended })
  page-nowhere search =
      moves-on old contents reads Ended tt
      (λ told.
      let h = stopped (asked_of old) (rows_of (table_of old) contents) (drop row rows) rest row (passes-here told) search in
      let above = passes-above (asked_of old) (rows_of (table_of old) contents) (h.later ++ rest) h.row told.ascends h.passes in
      passes-end (asked_of old) (rows_of (table_of old) contents) (h.row ∷ (h.later ++ rest)) h.passes (h.none, none-past (asked_of old) h.row.key (h.later ++ rest) h.last above))
      (λ told. tt)
      (λ told. omega arith)
      (λ told.
      let h = stopped (asked_of old) (rows_of (table_of old) contents) (drop row rows) rest row (passes-here told) search in
      let above = passes-above (asked_of old) (rows_of (table_of old) contents) (h.later ++ rest) h.row told.ascends h.passes in
      let none = none-behind h.row.key h.later h.last above in
      omega (arith, none))
