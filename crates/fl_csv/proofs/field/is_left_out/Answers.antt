use Rattle.std.proofs.Common.{◌∙◌, ◌∷◌, []}
use Rattle.fl_model.proofs.Names.{bytes_equal-is}
use Rattle.fl_csv.proofs.field.is_left_out.Goals as goal

pub returns-in-LeftOut : goal.returns-in-LeftOut
returns-in-LeftOut c = rw c.in-LeftOut.is (rw c.as_slice.ensures at c.eq.ensures ∙ bytes_equal-is c.args.field.now (103 ∷ 111 ∷ 110 ∷ 101 ∷ []))
