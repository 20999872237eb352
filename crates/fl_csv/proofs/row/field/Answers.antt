use Rattle.std.proofs.Common.{ap, refl, ◌∙◌}
use Rattle.fl_csv.proofs.Fields.{field-or}
use Rattle.fl_csv.proofs.row.field.Goals as goal

pub returns : goal.returns
returns c = ap (λ s. s.now) c.unwrap_or.ensures ∙ field-or _ _ _ _ c.get.ensures.value refl
