use Rattle.std.proofs.Common.{rules, ◌≡◌, ◌+◌, ◌^◌, ◌<◌, true, Some, List, length, drop, sym, ◌∙◌, ap, subst, arith}
use Rattle.std.specs.List.{slice_get}
use Rattle.fl_model.specs.Row.{Row}
use Rattle.fl_page.specs.Header.{page_count}
use Rattle.fl_page.specs.Page.{rows_in}
use Rattle.fl_page.specs.View.{rows_of, count_of, page_of, layout_of_page}
use Rattle.fl_schema.specs.Schema.{row_of}
use Rattle.fl_page.proofs.RowsFrom.{length-rows_from}
use Rattle.fl_table.specs.Look.{layout_in}
use Rattle.fl_cursor.specs.Asked.{asked_by}
use Rattle.fl_cursor.specs.Cursor.{IsPlaced}
use Rattle.fl_cursor.specs.Going.{Goes, took}
use Rattle.fl_cursor.specs.Sought.{first_left}
use Rattle.fl_cursor.specs.declared.cursor.Cursor.{Cursor}
use Rattle.fl_cursor.specs.declared.place.Here.TheVariants.{PageRow}
use Rattle.fl_cursor.specs.declared.place.Place.TheVariants.{InPage}
use Rattle.fl_cursor.specs.declared.search.Sought.TheVariants.{Row as At, Behind, Nowhere}
use Rattle.fl_cursor.proofs.InPage.{page-taken, page-behind, page-nowhere}
use Rattle.fl_cursor.proofs.SearchedRows.{some-columns}
use Rattle.fl_cursor.proofs.Walks.{found-within}
use Rattle.fl_cursor.specs.Sound.{IsSoundAhead}
use Rattle.fl_cursor.proofs.SoundPages.{sound-behind, sound-nowhere, sound-taken}
use Rattle.fl_cursor.proofs.PlacesLeft.{step-none, step-taken, step-behind, step-nowhere}
use Rattle.fl_cursor.proofs.Whole.{goes-still}
use Rattle.fl_parts.proofs.Sizes.{table-fits}
use Rattle.fl_cursor.proofs.cursor.Cursor.step_in_page.Goals as goal

pub first_in_page-requires-clause-within : goal.first_in_page-requires-clause-within
first_in_page-requires-clause-within g c =
    let t = c.args.self.now.table.now in
    let page = c.args.self.now.rows_buf.now.bytes in
    let view = c.view-view.result in
    let placed = subst (IsPlaced t page) c.in-InPage.is c.requires.placed in
    let many : length (rows_of view) ≡ length (rows_in (layout_in t) page) = ap (λ (rows : List Row). length rows) c.view-view.ensures.rows in
    omega (arith, placed.3, many, length-rows_from (count_of view) (layout_of_page view) (drop 16 (page_of view)), length-rows_from (page_count page) (layout_in t) (drop 16 page))

pub row-requires : goal.row-requires
row-requires g c =
    let view = c.view-view.result in
    let sought : At c.in-Row.row ≡ first_left (asked_by c.args.self.now.mark) (drop c.in-InPage.row (rows_of view)) c.in-InPage.row = sym c.in-Row.is ∙ c.first_in_page.ensures in
    let within = found-within (asked_by c.args.self.now.mark) (rows_of view) c.in-InPage.row c.in-Row.row sought in
    (omega arith, omega (arith, within, length-rows_from (count_of view) (layout_of_page view) (drop 16 (page_of view))))

pub overflow_add-self : goal.overflow_add-self
overflow_add-self g c =
    let placed = subst (IsPlaced c.args.self.now.table.now c.args.self.now.rows_buf.now.bytes) c.in-InPage.is c.requires.placed in
    omega (arith, placed.1, c.requires.few)

pub returns-in-Row-clause-goes : goal.returns-in-Row-clause-goes
returns-in-Row-clause-goes g c = λ contents reads.
    let old : Cursor g.row.KNOTS g.row.SLOTS = c.args.self.now in
    let t = c.args.self.now.table.now in
    let page = c.args.self.now.rows_buf.now.bytes in
    let placed = subst (IsPlaced t page) c.in-InPage.is c.requires.placed in
    let found = row_of c.row.result in
    let here : slice_get (rows_in (layout_in t) page) c.in-Row.row ≡ Some found = ap (λ (rows : List Row). slice_get rows c.in-Row.row) (sym c.view-view.ensures.rows) ∙ c.row.ensures.row in
    let sought : At c.in-Row.row ≡ first_left (asked_by c.args.self.now.mark) (drop c.in-InPage.row (rows_in (layout_in t) page)) c.in-InPage.row =
    sym c.in-Row.is ∙ (c.first_in_page.ensures ∙ ap (λ (rows : List Row). first_left (asked_by c.args.self.now.mark) (drop c.in-InPage.row rows) c.in-InPage.row) c.view-view.ensures.rows) in
    let key : c.key-key.result ≡ found.key = search rules in
    let fits : c.key-key.result < 2 ^ 64 = search rules in
    let small : found.key < 2 ^ 64 = omega (arith, fits, key) in
    subst (λ (new : Cursor g.row.KNOTS g.row.SLOTS). Goes true contents reads old reads new)
    (sym (c.take.ensures ∙ ap (λ k. took k (PageRow c.in-InPage.number c.in-Row.row) (InPage c.in-InPage.number (c.in-Row.row + 1)) old) key))
    (page-taken old c.in-InPage.number c.in-InPage.row c.in-InPage.is placed contents reads c.requires.short c.in-Row.row found here sought small)

pub returns-in-Behind-clause-goes : goal.returns-in-Behind-clause-goes
returns-in-Behind-clause-goes g c = λ contents reads.
    let t = c.args.self.now.table.now in
    let page = c.args.self.now.rows_buf.now.bytes in
    let placed = subst (IsPlaced t page) c.in-InPage.is c.requires.placed in
    let sought : Behind ≡ first_left (asked_by c.args.self.now.mark) (drop c.in-InPage.row (rows_in (layout_in t) page)) c.in-InPage.row =
    sym c.in-Behind.is ∙ (c.first_in_page.ensures ∙ ap (λ (rows : List Row). first_left (asked_by c.args.self.now.mark) (drop c.in-InPage.row rows) c.in-InPage.row) c.view-view.ensures.rows) in
    page-behind c.args.self.now c.in-InPage.number c.in-InPage.row c.in-InPage.is placed contents reads sought

pub returns-in-Nowhere-clause-goes : goal.returns-in-Nowhere-clause-goes
returns-in-Nowhere-clause-goes g c = λ contents reads.
    let t = c.args.self.now.table.now in
    let page = c.args.self.now.rows_buf.now.bytes in
    let placed = subst (IsPlaced t page) c.in-InPage.is c.requires.placed in
    let sought : Nowhere ≡ first_left (asked_by c.args.self.now.mark) (drop c.in-InPage.row (rows_in (layout_in t) page)) c.in-InPage.row =
    sym c.in-Nowhere.is ∙ (c.first_in_page.ensures ∙ ap (λ (rows : List Row). first_left (asked_by c.args.self.now.mark) (drop c.in-InPage.row rows) c.in-InPage.row) c.view-view.ensures.rows) in
    page-nowhere c.args.self.now c.in-InPage.number c.in-InPage.row c.in-InPage.is placed contents reads sought

pub returns-in-Row-clause-sound : goal.returns-in-Row-clause-sound
returns-in-Row-clause-sound g c = λ contents s.
    let t = c.args.self.now.table.now in
    let page = c.args.self.now.rows_buf.now.bytes in
    let found = row_of c.row.result in
    let here : slice_get (rows_in (layout_in t) page) c.in-Row.row ≡ Some found = ap (λ (rows : List Row). slice_get rows c.in-Row.row) (sym c.view-view.ensures.rows) ∙ c.row.ensures.row in
    let sought : At c.in-Row.row ≡ first_left (asked_by c.args.self.now.mark) (drop c.in-InPage.row (rows_in (layout_in t) page)) c.in-InPage.row =
    sym c.in-Row.is ∙ (c.first_in_page.ensures ∙ ap (λ (rows : List Row). first_left (asked_by c.args.self.now.mark) (drop c.in-InPage.row rows) c.in-InPage.row) c.view-view.ensures.rows) in
    let key : c.key-key.result ≡ found.key = search rules in
    sound-taken c.args.self.now c.in-InPage.number c.in-InPage.row c.in-InPage.is contents c.in-Row.row found (PageRow c.in-InPage.number c.in-Row.row) here sought
    (subst (λ (new : Cursor g.row.KNOTS g.row.SLOTS). IsSoundAhead new contents)
    (c.take.ensures ∙ ap (λ k. took k (PageRow c.in-InPage.number c.in-Row.row) (InPage c.in-InPage.number (c.in-Row.row + 1)) c.args.self.now) key) s)

pub returns-in-Behind-clause-sound : goal.returns-in-Behind-clause-sound
returns-in-Behind-clause-sound g c = λ contents s. sound-behind c.args.self.now c.in-InPage.number c.in-InPage.row c.in-InPage.is contents s

pub returns-in-Nowhere-clause-sound : goal.returns-in-Nowhere-clause-sound
returns-in-Nowhere-clause-sound g c = λ contents s.
    let t = c.args.self.now.table.now in
    let page = c.args.self.now.rows_buf.now.bytes in
    let sought : Nowhere ≡ first_left (asked_by c.args.self.now.mark) (drop c.in-InPage.row (rows_in (layout_in t) page)) c.in-InPage.row =
    sym c.in-Nowhere.is ∙ (c.first_in_page.ensures ∙ ap (λ (rows : List Row). first_left (asked_by c.args.self.now.mark) (drop c.in-InPage.row rows) c.in-InPage.row) c.view-view.ensures.rows) in
    sound-nowhere c.args.self.now c.in-InPage.number c.in-InPage.row c.in-InPage.is contents sought

pub returns-in_default-clause-goes : goal.returns-in_default-clause-goes
returns-in_default-clause-goes g c = λ contents reads. goes-still c.args.self.now contents reads

pub returns-in_default-clause-sound : goal.returns-in_default-clause-sound
returns-in_default-clause-sound g c = λ contents s. s

pub returns-in_default-clause-place : goal.returns-in_default-clause-place
returns-in_default-clause-place g c = step-none c.args.self.now c.requires.begun (λ number row e. c.in_default.not-InPage number row e)

pub returns-in-Row-clause-place : goal.returns-in-Row-clause-place
returns-in-Row-clause-place g c = step-taken c.args.self.now c.in-InPage.number c.in-InPage.row c.in-InPage.is c.take.new.self c.key-key.result (c.in-Row.row + 1) (PageRow c.in-InPage.number c.in-Row.row) c.take.ensures

pub returns-in-Behind-clause-place : goal.returns-in-Behind-clause-place
returns-in-Behind-clause-place g c =
    let placed = subst (IsPlaced c.args.self.now.table.now c.args.self.now.rows_buf.now.bytes) c.in-InPage.is c.requires.placed in
    step-behind c.args.self.now c.in-InPage.number c.in-InPage.row c.in-InPage.is placed.1

pub returns-in-Nowhere-clause-place : goal.returns-in-Nowhere-clause-place
returns-in-Nowhere-clause-place g c = step-nowhere c.args.self.now c.in-InPage.number c.in-InPage.row c.in-InPage.is

pub view-view-requires : goal.view-view-requires
view-view-requires g c =
    let placed = subst (IsPlaced c.args.self.now.table.now c.args.self.now.rows_buf.now.bytes) c.in-InPage.is c.requires.placed in
    (table-fits g.row.KNOTS g.row.SLOTS c.args.self.now.table.now.few_knots c.args.self.now.table.now.few_slots, (placed.2, c.requires.short))

pub first_in_page-requires-clause-columns : goal.first_in_page-requires-clause-columns
first_in_page-requires-clause-columns g c = some-columns c.args.self.now.table.now _ c.view-view.ensures.layout
