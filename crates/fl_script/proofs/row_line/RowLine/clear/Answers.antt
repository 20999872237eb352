use Rattle.std.proofs.Common.{arith}
use Rattle.std.proofs.lemmas.List.{drop_all}
use Rattle.fl_script.proofs.row_line.RowLine.clear.Goals as goal

pub returns : goal.returns
returns c = drop_all 240 c.self.inside.text (omega (arith, c.self.invariant.0))
