-- A cursor among the pending rows: it takes one, or ends.
use Rattle.std.proofs.Common.{◌≡◌, ℕ, suc, ◌+◌, ◌^◌, ◌<◌, ◌≤◌, ◌*◌, ◌⊎◌, inl, inr, true, false, Option, Some, None, unwrap_or, List, [], ◌∷◌, ◌++◌, drop, sym, ◌∙◌, ap, subst, arith}
use Rattle.std.specs.List.{slice_get}
use Rattle.std.proofs.lemmas.Bool.{lt-ltb}
use Rattle.std.proofs.lemmas.List.{append-nil}
use Rattle.std.proofs.Math.Nat.{mul-le-mul_left}
use Rattle.fl_model.specs.Record.{layout_len}
use Rattle.fl_model.specs.Row.{Row}
use Rattle.fl_model.proofs.Lists.{slice_get-short}
use Rattle.fl_frame.specs.Contents.{Contents}
use Rattle.fl_table.specs.Look.{layout_in, buffered_rows}
use Rattle.fl_table.specs.Memory.{pending_in}
use Rattle.fl_table.specs.declared.table.Table.{Table}
use Rattle.fl_table.proofs.PendingKey.{length-buffered}
use Rattle.fl_cursor.specs.Asked.{is_left}
use Rattle.fl_cursor.specs.Cursor.{index_page, table_of, asked_of, rows_behind, Passes, IsTold}
use Rattle.fl_cursor.specs.Going.{Goes, took}
use Rattle.fl_cursor.specs.Listed.{rows_of}
use Rattle.fl_cursor.specs.Reads.{least_from}
use Rattle.fl_cursor.specs.Sought.{first_left}
use Rattle.fl_cursor.specs.declared.cursor.Cursor.{Cursor}
use Rattle.fl_cursor.specs.declared.place.Here.TheVariants.{PendingRow}
use Rattle.fl_cursor.specs.declared.place.Place.TheVariants.{Pending, Ended}
use Rattle.fl_cursor.specs.declared.search.Sought.{Sought}
use Rattle.fl_cursor.specs.declared.search.Sought.TheVariants.{Row as At, Behind, Nowhere}
use Rattle.fl_cursor.proofs.InPage.{same-row, drop-same}
use Rattle.fl_cursor.proofs.PassedRows.{passes-all, passes-same, passes-end, passes-above, none-past}
use Rattle.fl_cursor.proofs.TakenRows.{takes-row, moves-on}
use Rattle.fl_cursor.proofs.Walks.{reached, passed, stopped}

pub few-pending : {KNOTS SLOTS : ℕ} (t : Table KNOTS SLOTS) → pending_in t ≤ 4096
few-pending t =
    let wide : pending_in t * 1 ≤ pending_in t * layout_len (layout_in t) = mul-le-mul_left (pending_in t) t.some_row in
    omega (arith, wide, t.rows_end, t.rows_room, t.page, t.served.page_greatest)

module _ {KNOTS SLOTS : ℕ} (old : Cursor KNOTS SLOTS) (row : ℕ) (here_is : old.place ≡ Pending row) (contents : Contents) (reads : ℕ) where
  abbrev rows : List Row
  rows = buffered_rows old.table.now

  passes-here : IsTold old contents → Passes (asked_of old) (rows_of (table_of old) contents) (drop row rows ++ [])
  passes-here told = passes-same (asked_of old) (rows_of (table_of old) contents) (rows_behind old.table.now contents old.rows_buf.now.bytes old.place) (drop row rows ++ [])
      (ap (rows_behind old.table.now contents old.rows_buf.now.bytes) here_is ∙ sym (append-nil (drop row rows))) told.passes

  least-here : least_from (table_of old) contents (asked_of old) (index_page old) old.place ≡ 0
  least-here = ap (least_from (table_of old) contents (asked_of old) (index_page old)) here_is

  pub pending-taken : (k : ℕ) (found : Row) → slice_get rows k ≡ Some found → At k ≡ first_left (asked_of old) (drop row rows) row → found.key < 2 ^ 64 →
      Goes true contents reads old reads (took found.key (PendingRow k) (Pending (k + 1)) old)
  pending-taken k found here search small =
      let free = reached (asked_of old) (drop row rows ++ []) (drop row rows) [] row k (passes-all (asked_of old) (drop row rows ++ [])) search in
      let left : is_left (asked_of old) found ≡ true = subst (λ (r : Row). is_left (asked_of old) r ≡ true) (same-row rows row free.j k free.row found free.at free.here here) free.left in
      let within : k < pending_in (table_of old) = omega (arith, slice_get-short rows k found here, length-buffered (table_of old)) in
      takes-row old contents reads (Pending (k + 1)) (omega (arith, within)) (PendingRow k) found
      (ap (λ (o : Option Row). unwrap_or o (record { key = 0; values = []; blob = None })) here)
      (lt-ltb k (pending_in (table_of old)) within) left small
      (λ told.
      let h = reached (asked_of old) (rows_of (table_of old) contents) (drop row rows) [] row k (passes-here told) search in
      passes-same (asked_of old) (rows_of (table_of old) contents) (h.row ∷ (drop (suc h.j) (drop row rows) ++ [])) (found ∷ drop (k + 1) rows)
      (ap (λ (r : Row). r ∷ (drop (suc h.j) (drop row rows) ++ [])) (same-row rows row h.j k h.row found h.at h.here here)
      ∙ (ap (λ (xs : List Row). found ∷ xs) (append-nil (drop (suc h.j) (drop row rows))) ∙ ap (λ (xs : List Row). found ∷ xs) (drop-same rows row h.j k h.at))) h.passes)
      (λ told. tt)
      (λ told last. omega arith)
      (λ told. omega (arith, least-here))
      (λ told last. least-here)

  ends : (IsTold old contents → Passes (asked_of old) (rows_of (table_of old) contents) []) → Goes false contents reads old reads (record old { place = Ended })
  ends passes = moves-on old contents reads Ended tt passes (λ told. tt) (λ told. omega arith) (λ told. omega (arith, least-here))

  pending-behind : Behind ≡ first_left (asked_of old) (drop row rows) row → Goes false contents reads old reads (record old { place = Ended })
  pending-behind search = ends (λ told. (passed (asked_of old) (rows_of (table_of old) contents) (drop row rows) [] row (passes-here told) search).passes)

  pending-nowhere : Nowhere ≡ first_left (asked_of old) (drop row rows) row → Goes false contents reads old reads (record old { place = Ended })
  pending-nowhere search = ends (λ told.
      let h = stopped (asked_of old) (rows_of (table_of old) contents) (drop row rows) [] row (passes-here told) search in
      let above = passes-above (asked_of old) (rows_of (table_of old) contents) (h.later ++ []) h.row told.ascends h.passes in
      passes-end (asked_of old) (rows_of (table_of old) contents) (h.row ∷ (h.later ++ [])) h.passes (h.none, none-past (asked_of old) h.row.key (h.later ++ []) h.last above))

  pub pending-ends : {sought : Sought} → (sought ≡ Behind) ⊎ (sought ≡ Nowhere) → sought ≡ first_left (asked_of old) (drop row rows) row → Goes false contents reads old reads (record old { place = Ended })
  pending-ends (inl is) e = pending-behind (sym is ∙ e)
  pending-ends (inr is) e = pending-nowhere (sym is ∙ e)
