use Rattle.std.proofs.Common.{arith, ◌∙◌, refl}
use Rattle.fl_schema.proofs.References.{field_4}
use Rattle.fl_page.proofs.header.number_in.Goals as goal

pub returns : goal.returns
returns c = c.get_u32.ensures ∙ field_4 c.args.page.now 0 0 0 4 refl refl (omega (arith, c.requires))
