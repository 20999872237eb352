use Rattle.std.proofs.Common.{refl, ◌∙◌, arith}
use Rattle.fl_schema.proofs.References.{field_2}
use Rattle.fl_rules.proofs.reaches.used_in.Goals as goal

pub returns : goal.returns
returns c = c.get_u16.ensures ∙ field_2 c.args.page.now 0 4 4 6 refl refl (omega (arith, c.requires))
