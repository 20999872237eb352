use Rattle.std.proofs.Common.{◌≡◌, sym, ◌∙◌, ap, inl}
use Rattle.std.proofs.lemmas.Result.{IfErr-weaker, IfOk-weaker}
use Rattle.fl_find.specs.Pages.{rows_on}
use Rattle.fl_page.specs.View.{count_of, layout_of_page, page_of, rows_of}
use Rattle.fl_schema.specs.Schema.{layout_of}
use Rattle.fl_parts.specs.KeptSteps.{HasRows}
use Rattle.fl_parts.specs.Reading.{IsRead, IsRefused, last_in}
use Rattle.fl_parts.specs.declared.mount_fault.MountFault.TheVariants.{BadPage}
use Rattle.fl_parts.proofs.KeptParts.{bare-last, bare-read, bare-rows, rows-viewed, view-read, view-refused, view-rows}
use Rattle.fl_parts.proofs.load.rows_in.Goals as goal

pub returns-in-Ok-clause-page : goal.returns-in-Ok-clause-page
returns-in-Ok-clause-page c =
    let layout = layout_of c.args.schema.now in
    let bytes = c.args.bytes.now in
    let v = c.in-Ok.ensures in
    let is = sym c.state_of.ensures ∙ c.in-Committed.is in
    let rows = rows-viewed layout (layout_of_page c.in-Ok.view) bytes (page_of c.in-Ok.view) (count_of c.in-Ok.view) is v.0 v.1 v.2 in
    IfOk-weaker c.rows_of_view.result _ (λ page. HasRows layout bytes page)
    (λ page h. view-rows layout c.args.number bytes c.args.last is v.3 (rows_of c.in-Ok.view) rows (count_of c.in-Ok.view) page v.2 c.requires.least c.requires.most c.requires.row h.0 h.1 (h.2 ∙ c.bitmap_in.ensures) h.3) c.rows_of_view.ensures.page

pub returns-in-Ok-clause-read : goal.returns-in-Ok-clause-read
returns-in-Ok-clause-read c =
    let layout = layout_of c.args.schema.now in
    let bytes = c.args.bytes.now in
    let v = c.in-Ok.ensures in
    let is = sym c.state_of.ensures ∙ c.in-Committed.is in
    let rows = rows-viewed layout (layout_of_page c.in-Ok.view) bytes (page_of c.in-Ok.view) (count_of c.in-Ok.view) is v.0 v.1 v.2 in
    IfOk-weaker c.rows_of_view.result _ (λ page. IsRead layout c.args.number bytes c.args.last) (λ page h. view-read layout c.args.number bytes c.args.last is v.3 (rows_of c.in-Ok.view) rows h.0) c.rows_of_view.ensures.keys

pub returns-in-Ok-clause-last : goal.returns-in-Ok-clause-last
returns-in-Ok-clause-last c =
    let layout = layout_of c.args.schema.now in
    let bytes = c.args.bytes.now in
    let v = c.in-Ok.ensures in
    let rows = rows-viewed layout (layout_of_page c.in-Ok.view) bytes (page_of c.in-Ok.view) (count_of c.in-Ok.view) (sym c.state_of.ensures ∙ c.in-Committed.is) v.0 v.1 v.2 in
    IfOk-weaker c.rows_of_view.result _ (λ page. page.last ≡ last_in c.args.last (rows_on layout bytes)) (λ page h. h.1 ∙ ap (last_in c.args.last) rows) c.rows_of_view.ensures.keys

pub returns-in-Ok-clause-fault : goal.returns-in-Ok-clause-fault
returns-in-Ok-clause-fault c =
    let layout = layout_of c.args.schema.now in
    let bytes = c.args.bytes.now in
    let v = c.in-Ok.ensures in
    let is = sym c.state_of.ensures ∙ c.in-Committed.is in
    let rows = rows-viewed layout (layout_of_page c.in-Ok.view) bytes (page_of c.in-Ok.view) (count_of c.in-Ok.view) is v.0 v.1 v.2 in
    IfErr-weaker c.rows_of_view.result _ (λ e. IsRefused layout c.args.number bytes c.args.last e) (λ e h. view-refused layout c.args.number bytes c.args.last is v.3 (rows_of c.in-Ok.view) rows e h) c.rows_of_view.ensures.fault

pub returns-in-Err-clause-fault : goal.returns-in-Err-clause-fault
returns-in-Err-clause-fault c = record { committed = sym c.state_of.ensures ∙ c.in-Committed.is; why = inl (c.in-Err.ensures.1, ap (λ bad. BadPage bad) c.in-Err.ensures.0) }

pub returns-in_default-clause-page : goal.returns-in_default-clause-page
returns-in_default-clause-page c = bare-rows (layout_of c.args.schema.now) c.args.number c.args.bytes.now c.args.last (λ is. c.in_default.not-Committed (c.state_of.ensures ∙ is))

pub returns-in_default-clause-read : goal.returns-in_default-clause-read
returns-in_default-clause-read c = bare-read (layout_of c.args.schema.now) c.args.number c.args.bytes.now c.args.last (λ is. c.in_default.not-Committed (c.state_of.ensures ∙ is))

pub returns-in_default-clause-last : goal.returns-in_default-clause-last
returns-in_default-clause-last c = bare-last (layout_of c.args.schema.now) c.args.number c.args.bytes.now c.args.last (λ is. c.in_default.not-Committed (c.state_of.ensures ∙ is))
