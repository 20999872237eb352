use Rattle.std.proofs.Common.{rules, ◌≡◌, ◌+◌, Bool, cond, get_or, drop, Some, map, ap, sym, ◌∙◌, pos}
use Rattle.std.proofs.lemmas.Int.{to_z-of_z}
use Rattle.fl_model.specs.Record.{first_misfit, fits}
use Rattle.fl_model.proofs.Lists.{slice_get-mapped}
use Rattle.fl_schema.specs.Types.{column_of}
use Rattle.fl_schema.specs.Schema.{types_of}
use Rattle.fl_parts.proofs.Misfits.{misfit-at}
use Rattle.fl_parts.proofs.values.misfit.Goals as goal

pub returns-then-not-is_fit : goal.returns-then-not-is_fit
returns-then-not-is_fit c =
    let i = c.loop-i.i in
    let is : c.is_fit.result ≡ fits (column_of c.column.result) (get_or c.args.values.now i (pos 0)) = search (rules, to_z-of_z) in
    let at = misfit-at (i + 1) i (map column_of (types_of c.args.schema.now)) c.args.values.now (column_of c.column.result) (pos 0) (slice_get-mapped column_of (types_of c.args.schema.now) i c.column.result c.column.ensures) c.loop-i-test.true in
    sym (c.loop-i.invariant ∙ at ∙ ap (λ (b : Bool). cond b (first_misfit (i + 1 + 1) (drop (i + 1) (map column_of (types_of c.args.schema.now))) (drop (i + 1) c.args.values.now)) (Some (i + 1))) (sym is ∙ c.if-not-is_fit.true))

pub loop-i-preserved : goal.loop-i-preserved
loop-i-preserved c =
    let i = c.loop-i.i in
    let is : c.is_fit.result ≡ fits (column_of c.column.result) (get_or c.args.values.now i (pos 0)) = search (rules, to_z-of_z) in
    let at = misfit-at (i + 1) i (map column_of (types_of c.args.schema.now)) c.args.values.now (column_of c.column.result) (pos 0) (slice_get-mapped column_of (types_of c.args.schema.now) i c.column.result c.column.ensures) c.loop-i-test.true in
    c.loop-i.invariant ∙ at ∙ ap (λ (b : Bool). cond b (first_misfit (i + 1 + 1) (drop (i + 1) (map column_of (types_of c.args.schema.now))) (drop (i + 1) c.args.values.now)) (Some (i + 1))) (sym is ∙ c.if-not-is_fit.false)
