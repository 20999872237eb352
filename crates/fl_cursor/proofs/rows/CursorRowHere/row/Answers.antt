use Rattle.std.proofs.Common.{◌&&◌, nat_lt, nat_le, List, length, drop, sym, ◌∙◌, ap, arith, ◌≡◌, Option, Some, None, [], unwrap_or}
use Rattle.std.proofs.lemmas.Bool.{ltb-true, leb-true, true≢false}
use Rattle.fl_model.specs.Row.{Row}
use Rattle.fl_page.specs.Header.{page_count}
use Rattle.fl_page.specs.View.{count_of, layout_of_page, page_of}
use Rattle.fl_page.specs.Page.{has_form, rows_in}
use Rattle.fl_page.proofs.RowsFrom.{length-rows_from}
use Rattle.fl_table.specs.Look.{layout_in}
use Rattle.fl_cursor.specs.Ascending.{both}
use Rattle.fl_cursor.specs.Cursor.{is_here_at, row_at}
use Rattle.fl_parts.proofs.Sizes.{table-fits}
use Rattle.std.specs.List.{slice_get}
use Rattle.fl_page.proofs.Views.{form-good}
use Rattle.fl_schema.specs.Schema.{row_of}
use Rattle.fl_table.specs.Memory.{pending_in}
use Rattle.fl_cursor.proofs.rows.CursorRowHere.row.Goals as goal

pub row-requires : goal.row-requires
row-requires g c =
    let t = c.args.self.now.table.now in
    let page = c.args.self.now.rows_buf.now.bytes in
    let view = c.view.result in
    let here = sym (ap (is_here_at t page) c.in-PageRow.is) ∙ c.requires in
    let sized = both (has_form (layout_in t) c.in-PageRow.number page && nat_lt c.in-PageRow.row (page_count page)) (nat_le (length page) 4096) here in
    let within = ltb-true c.in-PageRow.row (page_count page) (both (has_form (layout_in t) c.in-PageRow.number page) (nat_lt c.in-PageRow.row (page_count page)) sized.0).1 in
    let many = ap (λ (rows : List Row). length rows) c.view.ensures.rows in
    (omega arith, omega (arith, within, many, length-rows_from (count_of view) (layout_of_page view) (drop 16 (page_of view)), length-rows_from (page_count page) (layout_in t) (drop 16 page)))

pub unreachable-requires : goal.unreachable-requires
unreachable-requires g c = true≢false (sym c.requires ∙ ap (is_here_at c.args.self.now.table.now c.args.self.now.rows_buf.now.bytes) c.in-Nowhere.is)

pub unreachable-unreachable : goal.unreachable-unreachable
unreachable-unreachable g c = c.unreachable.type_inv

pub view-requires : goal.view-requires
view-requires g c =
    let t = c.args.self.now.table.now in
    let page = c.args.self.now.rows_buf.now.bytes in
    let here = sym (ap (is_here_at t page) c.in-PageRow.is) ∙ c.requires in
    let sized = both (has_form (layout_in t) c.in-PageRow.number page && nat_lt c.in-PageRow.row (page_count page)) (nat_le (length page) 4096) here in
    let good = (both (has_form (layout_in t) c.in-PageRow.number page) (nat_lt c.in-PageRow.row (page_count page)) sized.0).0 in
    (table-fits g.row.KNOTS g.row.SLOTS c.args.self.now.table.now.few_knots c.args.self.now.table.now.few_slots, (form-good (layout_in t) c.in-PageRow.number page good, leb-true (length page) 4096 sized.1))

pub pending_row-requires : goal.pending_row-requires
pending_row-requires g c = (table-fits g.row.KNOTS g.row.SLOTS c.args.self.now.table.now.few_knots c.args.self.now.table.now.few_slots, ltb-true c.in-PendingRow.row (pending_in c.args.self.now.table.now) (sym (ap (is_here_at c.args.self.now.table.now c.args.self.now.rows_buf.now.bytes) c.in-PendingRow.is) ∙ c.requires))

pub returns-in-PageRow-clause-schema : goal.returns-in-PageRow-clause-schema
returns-in-PageRow-clause-schema g c = c.row.ensures.layout ∙ c.view.ensures.layout

pub returns-in-PageRow-clause-row : goal.returns-in-PageRow-clause-row
returns-in-PageRow-clause-row g c =
    let t = c.args.self.now.table.now in
    let page = c.args.self.now.rows_buf.now.bytes in
    let at : slice_get (rows_in (layout_in t) page) c.in-PageRow.row ≡ Some (row_of c.row.result) = ap (λ (rows : List Row). slice_get rows c.in-PageRow.row) (sym c.view.ensures.rows) ∙ c.row.ensures.row in
    ap (λ (o : Option Row). unwrap_or o (record { key = 0; values = []; blob = None })) (sym at) ∙ ap (row_at t page) (sym c.in-PageRow.is)

pub returns-in-PendingRow-clause-schema : goal.returns-in-PendingRow-clause-schema
returns-in-PendingRow-clause-schema g c = c.pending_row.ensures.layout

pub returns-in-PendingRow-clause-row : goal.returns-in-PendingRow-clause-row
returns-in-PendingRow-clause-row g c = ap (λ (o : Option Row). unwrap_or o (record { key = 0; values = []; blob = None })) (sym c.pending_row.ensures.row) ∙ ap (row_at c.args.self.now.table.now c.args.self.now.rows_buf.now.bytes) (sym c.in-PendingRow.is)
