-- The page of a log, over its seal and what came before.
use Rattle.std.proofs.Common.{◌≡◌, ℕ, Option, Some, None, option_map, unwrap_or, IfSome, Result, Ok, Err, OnOk, List, [], ◌∷◌, ◌++◌, IsTrue, length, sym, ◌∙◌, ap, subst, arith}
use Rattle.fl_base.specs.declared.types.Geometry.{Geometry}
use Rattle.fl_flash.specs.Flash.{FlashState, page_at}
use Rattle.fl_flash.specs.declared.flash.FlashFault.{FlashFault}
use Rattle.fl_model.specs.Layout.{rows_body}
use Rattle.fl_model.specs.Record.{RowLayout}
use Rattle.fl_model.specs.Row.{Row}
use Rattle.fl_page.specs.Writer.{Gathers}
use Rattle.fl_ring.specs.Place.{next_of}
use Rattle.fl_ring.specs.Written.{sealed_over}
use Rattle.fl_ring.specs.declared.ring.Ring.{Ring}
use Rattle.fl_parts.specs.Bitmaps.{IsOutside}
use Rattle.fl_table.specs.Look.{layout_in}
use Rattle.fl_table.specs.Memory.{ring_shape}
use Rattle.fl_table.specs.Mounting as mounting
use Rattle.fl_table.specs.Paged.{IsApart}
use Rattle.fl_ring.proofs.Written.{page-as}
use Rattle.fl_rlc.specs.Memory.{IsSamePlan, LogAhead, kept_rows, log_shape, next_in, rows_in}
use Rattle.fl_rlc.specs.Paged.{PutLogged, RowLogged, RowsLogged, log_page}
use Rattle.fl_rlc.specs.declared.log.RecordLog.{RecordLog}
use Rattle.fl_rlc.specs.declared.table.LoggedTable.{LoggedTable}
use Rattle.fl_rlc.proofs.JoinedRow.{same-shape}

module _ (layout : RowLayout) (row : Row) where
  -- a row joined those that stay of a log, and all were sealed
  pub row-logged : (old mid : RecordLog) (result : Result (Unit {0}) FlashFault) (f g : FlashState) → IsSamePlan old mid → mid.ring ≡ old.ring →
      ((rows : List Row) → Gathers layout rows (rows_in old) → Gathers layout (kept_rows layout (rows_in old) rows ++ row ∷ []) (rows_in mid)) →
      OnOk result (IsTrue f.media.tells → (l : RowLayout) (rows : List Row) → Gathers l rows (rows_in mid) → RowsLogged mid l rows (page_at f) (page_at g)) → OnOk result (IsTrue f.media.tells → RowLogged layout row (Some old) (page_at f) (page_at g))
  row-logged old mid (Ok done) f g same ring joins paged = λ told rows gathers.
      let all : List Row = kept_rows layout (rows_in old) rows ++ row ∷ [] in
      let number : next_in mid ≡ next_in old = ap (λ (o : Option Ring). unwrap_or (option_map (λ (r : Ring). next_of r) o) 0) ring in
      let page : mid.geometry.page ≡ old.geometry.page = ap (λ (k : Geometry). k.page) same.geometry in
      let room : length mid.rows.body ≡ length old.rows.body = omega (arith, mid.body, old.body, page) in
      let body : rows_body (length mid.rows.body) layout (next_in mid) 0 all ≡ rows_body (length old.rows.body) layout (next_in old) 0 all =
      ap (λ (n : ℕ). rows_body n layout (next_in mid) 0 all) room ∙ ap (λ (n : ℕ). rows_body (length old.rows.body) layout n 0 all) number in
      page-as (log_shape mid) (log_shape old) (next_in mid) (next_in old) (rows_body (length mid.rows.body) layout (next_in mid) 0 all) (rows_body (length old.rows.body) layout (next_in old) 0 all) (page_at f) (page_at g) (same-shape old mid same) number body
      (paged told layout all (joins rows gathers))
  row-logged old mid (Err fault) f g same ring joins paged = tt

-- .. behind a put of the table, which left the log's page
pub put-logged : {KNOTS SLOTS : ℕ} (t : LoggedTable KNOTS SLOTS) (layout : RowLayout) (row : Row) (f m g : FlashState) → layout ≡ layout_in t.table → m.media.tells ≡ f.media.tells → (IsTrue f.media.tells → mounting.OutsideStands t.table (page_at f) (page_at m)) →
    (IsTrue m.media.tells → RowLogged layout row t.log (page_at m) (page_at g)) → (IsTrue m.media.tells → IfSome t.log (λ log. LogAhead log (page_at g))) → PutLogged t row f g
put-logged t layout row f m g is tells outside logged ahead = λ told. (
  λ beside. by-log t.log (outside told) beside (subst (λ (l : RowLayout). RowLogged l row t.log (page_at m) (page_at g)) is (logged (subst IsTrue (sym tells) told))),
  ahead (subst IsTrue (sym tells) told),
)
  where
    by-log : (o : Option RecordLog) → mounting.OutsideStands t.table (page_at f) (page_at m) → IfSome o (λ log. IsOutside (ring_shape t.table) (log_page log) × IsApart t.table (log_page log)) →
        RowLogged (layout_in t.table) row o (page_at m) (page_at g) → RowLogged (layout_in t.table) row o (page_at f) (page_at g)
    by-log None stands beside h = tt
    by-log (Some log) stands beside h = λ rows gathers.
        h rows gathers
        ∙ ap (λ (page : List ℕ). sealed_over (log_shape log) (rows_body (length (rows_in log).body) (layout_in t.table) (next_in log) 0 (kept_rows (layout_in t.table) (rows_in log) rows ++ row ∷ [])) page)
        (stands (log_page log) beside.0 beside.1.index beside.1.blobs)
