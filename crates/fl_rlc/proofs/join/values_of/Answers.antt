use Rattle.std.proofs.Common.{◌≡◌, length, take, drop, ap, ◌∙◌, arith}
use Rattle.std.proofs.Math.Seq.{take-length}
use Rattle.fl_model.proofs.RowValues.{length-values_in}
use Rattle.fl_schema.specs.Schema.{row_of, layout_of_row, bytes_of}
use Rattle.fl_rlc.proofs.join.values_of.Goals as goal

pub returns : goal.returns
returns c =
    let row = row_of c.args.row.now in
    let many : c.loop-i.i ≡ length row.values = omega (arith, c.loop-i.auto.i-end, c.loop-i-test.false, c.requires.columns, length-values_in (layout_of_row c.args.row.now).columns (drop (layout_of_row c.args.row.now).key_bytes (bytes_of c.args.row.now))) in
    c.loop-i.invariant ∙ ap (λ n. take n row.values) many ∙ take-length row.values
