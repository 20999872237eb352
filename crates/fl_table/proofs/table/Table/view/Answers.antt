use Rattle.std.proofs.Common.{◌<◌, ◌≤◌, ◌-◌, ◌/◌, ℕ, List, length, drop, sym, ◌∙◌, ap, subst, arith}
use Rattle.std.proofs.Math.Nat.{mul-le-mul, div-mul-le_self}
use Rattle.fl_model.specs.Record.{RowLayout, layout_len}
use Rattle.fl_page.specs.Header.{page_count}
use Rattle.fl_page.specs.Page.{IsGoodPage, rows_from}
use Rattle.fl_page.specs.View.{layout_of_page, page_of}
use Rattle.fl_table.specs.Look.{layout_in}
use Rattle.fl_parts.proofs.KeyRows.{good-few}
use Rattle.fl_parts.proofs.Sizes.{schema-fits, view-fits}
use Rattle.fl_table.proofs.table.Table.view.Goals as goal

-- a page with rows has a header
good-long : (layout : RowLayout) (number : ℕ) (page : List ℕ) → IsGoodPage layout number page → 1 ≤ layout_len layout → 24 ≤ length page
good-long layout number page good some =
    let rows : 1 ≤ (length page - 24) / layout_len layout = omega (arith, good.some, good.room) in
    omega (arith, mul-le-mul rows some, div-mul-le_self (length page - 24) (layout_len layout))

pub of-requires : goal.of-requires
of-requires g c =
    let t = c.args.self.now in
    (schema-fits, (view-fits, subst (λ (page : List ℕ). 24 ≤ length page) (sym c.bytes.ensures) (good-long (layout_in t) c.args.number c.args.buf.now.bytes c.requires.good t.some_row)))

pub unreachable-requires : goal.unreachable-requires
unreachable-requires g c =
    c.in_default.ensures.1 (subst (λ (page : List ℕ). IsGoodPage (layout_in c.args.self.now) c.args.number page) (sym c.bytes.ensures) c.requires.good)

pub unreachable-unreachable : goal.unreachable-unreachable
unreachable-unreachable g c = c.unreachable.type_inv

pub returns-clause-page : goal.returns-clause-page
returns-clause-page g c = c.in-Ok.ensures.0 ∙ c.bytes.ensures

pub returns-clause-layout : goal.returns-clause-layout
returns-clause-layout g c = c.in-Ok.ensures.1

pub returns-clause-rows : goal.returns-clause-rows
returns-clause-rows g c =
    let view = c.in-Ok.view in
    let count = page_count c.args.buf.now.bytes in
    ap (λ (n : ℕ). rows_from n (layout_of_page view) (drop 16 (page_of view))) (c.in-Ok.ensures.2 ∙ ap page_count c.bytes.ensures)
    ∙ (ap (λ (layout : RowLayout). rows_from count layout (drop 16 (page_of view))) c.in-Ok.ensures.1
    ∙ ap (λ (page : List ℕ). rows_from count (layout_in c.args.self.now) (drop 16 page)) (c.in-Ok.ensures.0 ∙ c.bytes.ensures))

pub returns-clause-few : goal.returns-clause-few
returns-clause-few g c =
    let t = c.args.self.now in
    let page = c.args.buf.now.bytes in
    subst (λ (n : ℕ). n < 65536) (sym (c.in-Ok.ensures.2 ∙ ap page_count c.bytes.ensures))
    (good-few (layout_in t) c.args.number page c.requires.good (good-long (layout_in t) c.args.number page c.requires.good t.some_row) c.requires.size t.some_row)
