use Rattle.std.proofs.Common.{◌≡◌, ℕ, ◌-◌, ◌≤◌, nat_lt, Some, List, length, sym, ◌∙◌, ap, subst, arith}
use Rattle.std.proofs.lemmas.Option.{none-some}
use Rattle.fl_plan.specs.Plan.{blocks_in}
use Rattle.fl_schema.specs.Form.{layout_with}
use Rattle.fl_schema.specs.Refusal.{refusal_of}
use Rattle.fl_schema.specs.declared.column.ColumnType.{ColumnType}
use Rattle.fl_plan.proofs.Fits.{schema-fits}
use Rattle.fl_table.proofs.plan.schema_of.Goals as goal

pub unreachable-requires : goal.unreachable-requires
unreachable-requires c =
    let config = c.args.config.now in
    let few : length config.columns.items ≤ 8 = omega (arith, ap (λ (cs : List ColumnType). length cs) c.as_slice.ensures.value, c.as_slice.ensures.fits) in
    let refused : refusal_of 8 (layout_with config.key config.columns.items (nat_lt 0 (blocks_in config.var))) (config.geometry.page - 24) ≡ Some c.in_default.field-0 =
    subst (λ (n : ℕ). refusal_of 8 (layout_with config.key config.columns.items (nat_lt 0 n)) (config.geometry.page - 24) ≡ Some c.in_default.field-0) c.var_blocks-blobs.ensures
    (subst (λ (cs : List ColumnType). refusal_of 8 (layout_with config.key cs (nat_lt 0 c.var_blocks-blobs.result)) (config.geometry.page - 24) ≡ Some c.in_default.field-0) c.as_slice.ensures.value c.in_default.ensures) in
    none-some _ (sym (schema-fits config c.requires.fits c.requires.limits few) ∙ refused)
