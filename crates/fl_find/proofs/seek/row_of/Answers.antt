use Rattle.std.proofs.Common.{◌≡◌, ℕ, ◌<◌, List, Some, length, drop, sym, ◌∙◌, subst, arith}
use Rattle.std.specs.List.{slice_get}
use Rattle.fl_model.specs.Row.{Row}
use Rattle.fl_page.specs.Page.{key_at}
use Rattle.fl_page.specs.View.{page_of, layout_of_page, count_of, rows_of}
use Rattle.fl_page.proofs.RowsFrom.{length-rows_from}
use Rattle.fl_schema.specs.Schema.{layout_of, row_of}
use Rattle.fl_schema.specs.Form.{types_in}
use Rattle.fl_find.specs.Rows.{RowsRise, LacksKey}
use Rattle.fl_find.proofs.RowSearch.{rows-view, row-key, keys-rise, lacks}
use Rattle.fl_find.proofs.seek.row_of.Goals as goal
use Rattle.fl_find.proofs.seek.row_of.Goals.{else-row-rows-via-then-row-rows+else-key, else-row-rows-via-else-row-rows}

pub returns-then-key : goal.returns-then-key
returns-then-key c =
    let v = c.in-Ok.ensures in
    let rows = rows-view (layout_of c.args.schema.now) (layout_of_page c.in-Ok.view) c.args.bytes.now (page_of c.in-Ok.view) (count_of c.in-Ok.view) c.requires.committed v.0 v.1 v.2 in
    record { found = record { row = row_of c.row.result; here = subst (λ (l : List Row). slice_get l c.seek-row.result ≡ Some (row_of c.row.result)) (sym rows) c.row.ensures.row; key_is = sym c.key.ensures ∙ c.if-key.true } }

pub returns : goal.returns
returns c =
    let v = c.in-Ok.ensures in
    let view = c.in-Ok.view in
    let kind = c.in-Ok.view.kind in
    let rows = rows-view (layout_of c.args.schema.now) (layout_of_page c.in-Ok.view) c.args.bytes.now (page_of c.in-Ok.view) (count_of c.in-Ok.view) c.requires.committed v.0 v.1 v.2 in
    let many = length-rows_from (count_of c.in-Ok.view) (layout_of_page c.in-Ok.view) (drop 16 (page_of c.in-Ok.view)) in
    let each : (i : ℕ) (row : Row) → slice_get (rows_of c.in-Ok.view) i ≡ Some row → row.key ≡ key_at (layout_of_page c.in-Ok.view) (page_of c.in-Ok.view) i =
    λ i row e. row-key kind.key (types_in kind.columns.now) kind.blobs (count_of c.in-Ok.view) i (page_of c.in-Ok.view) row e in
    let above : c.seek-row.result < length (rows_of c.in-Ok.view) → c.args.key < key_at (layout_of_page c.in-Ok.view) (page_of c.in-Ok.view) c.seek-row.result =
    λ lt. elim c.else-row-rows.branch [
      | else-row-rows-via-then-row-rows+else-key w ↦
          let least = c.seek-row.ensures.at_least (omega (arith, lt, many)) in
          let key_is = each c.seek-row.result (row_of w.row.result) w.row.ensures.row in
          let differ = w.if-key.false in
          omega (arith, least, key_is, w.key.ensures, differ)
      | else-row-rows-via-else-row-rows w ↦ absurd (omega (arith, lt, many, w.if-row-rows.false, c.rows.ensures))
    ] in
    record {
      found = λ rise.
          let up : RowsRise (rows_of c.in-Ok.view) = subst (λ (l : List Row). RowsRise l) rows rise in
          subst (λ (l : List Row). LacksKey l c.args.key) (sym rows)
          (lacks (rows_of c.in-Ok.view) (key_at (layout_of_page c.in-Ok.view) (page_of c.in-Ok.view)) each up c.args.key c.seek-row.result
          (c.seek-row.ensures.below (λ i j le lt. keys-rise (rows_of c.in-Ok.view) (key_at (layout_of_page c.in-Ok.view) (page_of c.in-Ok.view)) each up i j le (omega (arith, lt, many)))) above);
    }
