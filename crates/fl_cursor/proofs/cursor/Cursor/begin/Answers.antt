use Rattle.std.proofs.Common.{◌≡◌, ◌≤◌, ℕ, Option, None, length, map, filter, refl, sym, ◌∙◌, ap, subst}
use Rattle.fl_flash.specs.Buffer.{BufferState}
use Rattle.fl_model.specs.Limits.{least_reads}
use Rattle.fl_model.specs.Query as query
use Rattle.fl_model.specs.Row.{stored_row}
use Rattle.fl_frame.specs.Contents.{contents_of}
use Rattle.fl_page.specs.Steps.{Ascends}
use Rattle.fl_table.specs.Look.{last_key_in}
use Rattle.fl_table.specs.declared.table.Table.{Table}
use Rattle.fl_cursor.specs.Asked.{asked_by, is_left}
use Rattle.fl_cursor.specs.Cursor.{table_of, asked_of, index_page, place_of, IsStanding}
use Rattle.fl_cursor.specs.Listed.{rows_of}
use Rattle.fl_cursor.specs.Reads.{least_from, IsBegun, IsBounded}
use Rattle.fl_cursor.proofs.Least.{begun-least}
use Rattle.fl_cursor.proofs.Limited.{bounded-min}
use Rattle.fl_cursor.proofs.Selected.{begins-selected}
use Rattle.fl_cursor.proofs.Stood.{standing-rows, standing-ascends, left-entries}
use Rattle.fl_cursor.specs.Sound.{IsSoundOver}
use Rattle.fl_cursor.proofs.cursor.Cursor.begin.Goals as goal

pub returns-clause-left : goal.returns-clause-left
returns-clause-left g c = λ f first plan t tells reaches lies stands.
    let range = c.args.range in
    let span = c.args.span in
    let h : IsStanding c.args.table.now (contents_of f) = record { flash = f; same = refl; tells = tells; reaches = reaches; lies = lies; first = first; plan = plan; table = t; stands = stands } in
    let asked : asked_of c.resume.result ≡ query.begin c.args.range c.args.span t =
    ap asked_by c.resume.ensures.mark ∙ ap (λ (top : Option ℕ). record { range = c.args.range; span = c.args.span; after = None; top = top }) (c.last_wanted-top.ensures.stands f first plan t stands) in
    ap (λ (a : query.Cursor). filter (is_left a) (rows_of (table_of c.resume.result) (contents_of f))) asked
    ∙ (ap (λ (tb : Table g.row.KNOTS g.row.SLOTS). filter (is_left (query.begin c.args.range c.args.span t)) (rows_of tb (contents_of f))) c.resume.ensures.table
    ∙ (ap (filter (is_left (query.begin c.args.range c.args.span t))) (standing-rows c.args.table.now (contents_of f) h)
    ∙ (left-entries (query.begin c.args.range c.args.span t) t.entries
    ∙ ap (map stored_row) (begins-selected range span t (subst (Ascends None) (standing-rows c.args.table.now (contents_of f) h) (standing-ascends c.args.table.now (contents_of f) h))))))

pub returns-clause-limit : goal.returns-clause-limit
returns-clause-limit g c = λ f first plan t tells reaches lies stands.
    c.resume.ensures.limit f first plan t tells reaches lies stands
    (subst (λ (top : Option ℕ). IsBounded top c.args.range.high) (sym c.last_wanted-top.ensures.exact) (bounded-min c.args.range.high (last_key_in c.args.table.now)))

pub returns-clause-least : goal.returns-clause-least
returns-clause-least g c = λ f first plan t tells reaches lies stands.
    let h : IsStanding c.args.table.now (contents_of f) = record { flash = f; same = refl; tells = tells; reaches = reaches; lies = lies; first = first; plan = plan; table = t; stands = stands } in
    let asked : asked_of c.resume.result ≡ query.begin c.args.range c.args.span t =
    ap asked_by c.resume.ensures.mark ∙ ap (λ (top : Option ℕ). record { range = c.args.range; span = c.args.span; after = None; top = top }) (c.last_wanted-top.ensures.stands f first plan t stands) in
    let begun : IsBegun (query.begin c.args.range c.args.span t) c.args.table.now (place_of c.resume.result) =
    subst (λ (a : query.Cursor). IsBegun a c.args.table.now (place_of c.resume.result)) (sym (ap asked_by c.resume.ensures.mark) ∙ asked) c.resume.ensures.begun in
    subst (λ (a : query.Cursor). least_reads plan t c.args.range c.args.span ≤ least_from (table_of c.resume.result) (contents_of f) a (index_page c.resume.result) (place_of c.resume.result)) (sym asked)
    (subst (λ (tb : Table g.row.KNOTS g.row.SLOTS). least_reads plan t c.args.range c.args.span ≤ least_from tb (contents_of f) (query.begin c.args.range c.args.span t) (index_page c.resume.result) (place_of c.resume.result)) (sym c.resume.ensures.table)
    (begun-least c.args.table.now (contents_of f) h c.args.range c.args.span (index_page c.resume.result) (place_of c.resume.result) (ap (λ (b : BufferState). b.holds) c.resume.ensures.index_forget) begun))

pub returns-clause-model : goal.returns-clause-model
returns-clause-model g c = λ f first plan t stands.
    ap asked_by c.resume.ensures.mark ∙ ap (λ (top : Option ℕ). record { range = c.args.range; span = c.args.span; after = None; top = top }) (c.last_wanted-top.ensures.stands f first plan t stands)

pub returns-clause-ready : goal.returns-clause-ready
returns-clause-ready g c = λ f lies rows index. c.resume.ensures.ready f lies (ap (λ (b : BufferState). length b.bytes) c.forget.ensures ∙ rows) index

pub returns-clause-sound : goal.returns-clause-sound
returns-clause-sound g c = λ contents s. subst (λ (a : query.Cursor). IsSoundOver c.args.table.now contents a) (sym (ap asked_by c.resume.ensures.mark)) (c.resume.ensures.sound contents s)

pub returns-clause-mark : goal.returns-clause-mark
returns-clause-mark g c = c.resume.ensures.mark ∙ ap (λ (top : Option ℕ). record { after = None; top = top; range = c.args.range; span = c.args.span }) c.last_wanted-top.ensures.exact

pub returns-clause-table : goal.returns-clause-table
returns-clause-table g c = c.resume.ensures.table

pub returns-clause-rows_name : goal.returns-clause-rows_name
returns-clause-rows_name g c = c.resume.ensures.rows_name

pub returns-clause-index_name : goal.returns-clause-index_name
returns-clause-index_name g c = c.resume.ensures.index_name

pub returns-clause-index_forget : goal.returns-clause-index_forget
returns-clause-index_forget g c = c.resume.ensures.index_forget

pub returns-clause-told : goal.returns-clause-told
returns-clause-told g c = c.resume.ensures.told

pub returns-clause-rows_forget : goal.returns-clause-rows_forget
returns-clause-rows_forget g c = c.resume.ensures.rows_page ∙ c.forget.ensures
