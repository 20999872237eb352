use Rattle.std.proofs.Common.{◌≡◌, ◌<◌, ℤ, List, [], ◌∷◌, ◌++◌, length, slice_index, to_z, of_z, FitsSigned, rules, ◌∙◌, ap, arith}
use Rattle.std.proofs.lemmas.Int.{to_z-of_z}
use Rattle.std.specs.Int.{w128}
use Rattle.fl_model.specs.Operators.{column_of}
use Rattle.fl_ops.specs.Columns.{record_of}
use Rattle.fl_ops.specs.Project.{input_of, columns_of}
use Rattle.fl_queries.proofs.Fields.{take-fields}
use Rattle.fl_queries.proofs.field_lines.fields_of.Goals as goal

pub loop-i-preserved : goal.loop-i-preserved
loop-i-preserved g c =
    let row = g.R.RowHere.present (input_of c.args.rows.now) in
    let within : c.loop-i.i < length (columns_of c.args.rows.now) = omega (arith, c.loop-i-test.true, c.requires.fields) in
    let fits : FitsSigned w128 c.value.result = search rules in
    let field : to_z w128 (of_z w128 c.value.result) ≡ column_of (record_of row) (slice_index (columns_of c.args.rows.now) c.loop-i.i) = to_z-of_z w128 c.value.result fits ∙ c.value.ensures in
    c.push.ensures.items
    ∙ (ap (λ (v : ℤ). c.loop-i.values.items ++ v ∷ []) field
    ∙ (ap (λ (vs : List ℤ). vs ++ column_of (record_of row) (slice_index (columns_of c.args.rows.now) c.loop-i.i) ∷ []) c.loop-i.invariant
    ∙ take-fields (column_of (record_of row)) (columns_of c.args.rows.now) c.loop-i.i within))
