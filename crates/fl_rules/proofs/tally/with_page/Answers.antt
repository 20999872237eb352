use Rattle.std.proofs.Common.{◌≡◌, List, length, sym, ◌∙◌, ap, arith}
use Rattle.fl_model.specs.Row.{Row}
use Rattle.fl_model.specs.BlobEnds.{blobs_end}
use Rattle.fl_page.specs.Page.{rows_in}
use Rattle.fl_page.specs.View.{count_of, rows_of, layout_of_page, page_of}
use Rattle.fl_ring.specs.Newest.{commits}
use Rattle.fl_schema.specs.Schema.{layout_of, types_of}
use Rattle.fl_page.proofs.RowsFrom.{length-rows_from}
use Rattle.fl_rules.proofs.DataPages.{rows_seen}
use Rattle.fl_rules.proofs.FormedRows.{good_few}
use Rattle.fl_rules.proofs.Tallies.{more_page}
use Rattle.fl_rules.proofs.tally.with_page.Goals as goal

pub overflow_add-result-in-Ok : goal.overflow_add-result-in-Ok
overflow_add-result-in-Ok c =
    let schema = c.args.schema.now in
    let few = good_few schema.key (types_of schema) schema.blobs c.args.page.now _ c.in-Ok.ensures.3 c.requires.short in
    omega (arith, few, c.rows.ensures, c.in-Ok.ensures.2, c.requires.few)

pub blobs_end-requires : goal.blobs_end-requires
blobs_end-requires c =
    let schema = c.args.schema.now in
    let few = good_few schema.key (types_of schema) schema.blobs c.args.page.now _ c.in-Ok.ensures.3 c.requires.short in
    omega (arith, few, c.in-Ok.ensures.2)

pub returns-in-Ok-clause-exact : goal.returns-in-Ok-clause-exact
returns-in-Ok-clause-exact c = λ rows.
    let schema = c.args.schema.now in
    let page = c.args.page.now in
    let seen : rows_of c.in-Ok.view ≡ rows_in (layout_of c.args.schema.now) c.args.page.now =
    rows_seen (layout_of schema) (layout_of_page c.in-Ok.view) page (page_of c.in-Ok.view) (count_of c.in-Ok.view) c.in-Ok.ensures.0 c.in-Ok.ensures.1 c.in-Ok.ensures.2 in
    let many : length (rows_of c.in-Ok.view) ≡ count_of c.in-Ok.view = length-rows_from (count_of c.in-Ok.view) _ _ in
    more_page (layout_of schema) page c.args.tally c.rows.result c.blobs_end.result (ap commits (sym c.state_of.ensures) ∙ sym c.is_committed.ensures ∙ c.if-not-is_committed.false)
    (c.rows.ensures ∙ sym many ∙ ap (λ (l : List Row). length l) seen) (c.blobs_end.ensures ∙ ap (blobs_end c.args.tally.blob_end) seen)

pub returns-in-Ok-clause-few : goal.returns-in-Ok-clause-few
returns-in-Ok-clause-few c =
    let schema = c.args.schema.now in
    let few = good_few schema.key (types_of schema) schema.blobs c.args.page.now _ c.in-Ok.ensures.3 c.requires.short in
    omega (arith, few, c.rows.ensures, c.in-Ok.ensures.2)
