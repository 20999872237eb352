use Rattle.std.proofs.Common.{◌≡◌, max, take, length, sym, ◌∙◌, ap, arith}
use Rattle.fl_model.specs.BlobEnds.{reference_end, blobs_end}
use Rattle.fl_model.proofs.BlobEnds.{ends-next, ends-all}
use Rattle.fl_page.specs.View.{rows_of, count_of}
use Rattle.fl_schema.specs.Schema.{row_of}
use Rattle.fl_page.proofs.RowsFrom.{length-rows_from}
use Rattle.fl_rules.proofs.tally.blobs_end.Goals as goal

pub loop-i-preserved : goal.loop-i-preserved
loop-i-preserved c =
    let end : c.reference_end.result ≡ reference_end (row_of c.row.result).blob = c.reference_end.ensures ∙ ap reference_end c.blob.ensures in
    c.max-end.ensures ∙ (ap (λ n. max n c.reference_end.result) c.loop-i.invariant
    ∙ (ap (λ n. max (blobs_end c.args.so_far (take c.loop-i.i (rows_of c.args.view.now))) n) end
    ∙ sym (ends-next c.args.so_far (rows_of c.args.view.now) c.loop-i.i (row_of c.row.result) c.row.ensures.row)))

pub returns : goal.returns
returns c =
    let rows = rows_of c.args.view.now in
    let many : length rows ≡ count_of c.args.view.now = length-rows_from (count_of c.args.view.now) _ _ in
    c.loop-i.invariant ∙ ends-all c.args.so_far rows c.loop-i.i (omega (arith, many, c.rows-i-end.ensures, c.loop-i-test.false))
