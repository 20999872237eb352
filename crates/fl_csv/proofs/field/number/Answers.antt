use Rattle.std.proofs.Common.{sym, ◌∙◌}
use Rattle.fl_csv.proofs.Numbers.{no-plus, no-text, parsed-text}
use Rattle.fl_csv.proofs.field.number.Goals as goal

pub returns-in_default : goal.returns-in_default
returns-in_default c = no-text c.args.field.now c.in_default.ensures.cases.0

pub returns : goal.returns
returns c =
    parsed-text c.args.field.now c.in-Ok.digits.now c.parse.result _ c.in-Ok.ensures.cases.0 c.parse.ensures.value.0
    (no-plus c.args.field.now (sym c.starts_with.ensures.value ∙ c.if-starts_with.false)) c.ok.ensures.value
