use Rattle.std.proofs.Common.{◌≡◌, List, length, drop, Option, IsSomeAnd, sym, ◌∙◌, ap, subst, arith}
use Rattle.std.specs.List.{slice_get}
use Rattle.fl_model.specs.Record.{RowLayout}
use Rattle.fl_model.specs.Row.{Row}
use Rattle.fl_page.specs.Header.{page_count}
use Rattle.fl_page.specs.View.{page_of, layout_of_page, count_of}
use Rattle.fl_page.proofs.RowsFrom.{length-rows_from}
use Rattle.fl_parts.proofs.Sizes.{table-fits}
use Rattle.fl_table.specs.Look.{layout_in}
use Rattle.fl_rlc.proofs.join.record_at.Goals as goal

pub row-row-requires : goal.row-row-requires
row-row-requires g c =
    let rows = ap (λ (rs : List Row). length rs) c.view.ensures.rows in
    let view = c.view.result in
    let bytes = c.args.buf.now.bytes in
    omega (arith, c.requires.within, rows, length-rows_from (count_of view) (layout_of_page view) (drop 16 (page_of view)), length-rows_from (page_count bytes) (layout_in c.args.table.now) (drop 16 bytes))

pub view-requires : goal.view-requires
view-requires g c = (table-fits g.row.KNOTS g.row.SLOTS c.args.table.now.few_knots c.args.table.now.few_slots, (c.requires.good, c.requires.size))

pub columns-requires : goal.columns-requires
columns-requires g c = table-fits g.row.KNOTS g.row.SLOTS c.args.table.now.few_knots c.args.table.now.few_slots

pub values_of-requires-clause-columns : goal.values_of-requires-clause-columns
values_of-requires-clause-columns g c = c.columns.ensures.exact ∙ ap (λ (l : RowLayout). length l.columns) (sym (c.row-row.ensures.layout ∙ c.view.ensures.layout))

pub values_of-requires-clause-few : goal.values_of-requires-clause-few
values_of-requires-clause-few g c = c.columns.ensures.few

pub returns : goal.returns
returns g c =
    subst (λ (rows : List Row). IsSomeAnd (slice_get rows c.args.i) (λ row. (c.key.result ≡ row.key) × (c.values_of.result.items ≡ row.values))) c.view.ensures.rows
    (subst (λ (o : Option Row). IsSomeAnd o (λ row. (c.key.result ≡ row.key) × (c.values_of.result.items ≡ row.values))) (sym c.row-row.ensures.row) (c.key.ensures, c.values_of.ensures))
