use Rattle.std.proofs.Common.{◌≡◌, true, false, length, sym, ◌∙◌, ap, arith}
use Rattle.fl_page.specs.View.{rows_of, count_of}
use Rattle.fl_schema.specs.Schema.{row_of}
use Rattle.fl_page.proofs.RowsFrom.{length-rows_from}
use Rattle.fl_rules.specs.DataPage.{is_plain}
use Rattle.fl_rules.proofs.PageRows.{plain-next, plain-bad, plain-end}
use Rattle.fl_rules.proofs.data_page.are_plain.Goals as goal

pub returns-then-not-is_plain : goal.returns-then-not-is_plain
returns-then-not-is_plain g c =
    let row = row_of c.row.result in
    let plain : is_plain (row_of c.row.result).blob ≡ false = ap is_plain (sym c.blob.ensures) ∙ (sym c.is_plain.ensures ∙ c.if-not-is_plain.true) in
    sym (plain-bad (rows_of c.args.view.now) c.loop-i.i row c.row.ensures.row plain c.loop-i.invariant)

pub loop-i-preserved : goal.loop-i-preserved
loop-i-preserved g c =
    let row = row_of c.row.result in
    let plain : is_plain (row_of c.row.result).blob ≡ true = ap is_plain (sym c.blob.ensures) ∙ (sym c.is_plain.ensures ∙ c.if-not-is_plain.false) in
    plain-next (rows_of c.args.view.now) c.loop-i.i row c.row.ensures.row plain c.loop-i.invariant

pub returns : goal.returns
returns g c =
    let rows = rows_of c.args.view.now in
    let many : length rows ≡ count_of c.args.view.now = length-rows_from (count_of c.args.view.now) _ _ in
    sym (plain-end rows c.loop-i.i (omega (arith, many, c.rows-i-end.ensures, c.loop-i-test.false)) c.loop-i.invariant)
