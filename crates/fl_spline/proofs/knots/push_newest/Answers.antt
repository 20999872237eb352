use Rattle.std.proofs.Common.{arith, ◌≡◌, ◌∷◌, [], ◌++◌}
use Rattle.std.proofs.lemmas.Grind.{common_steps}
use Rattle.fl_spline.specs.Points.{newest}
use Rattle.fl_spline.proofs.Lists.{rises-newest}
use Rattle.fl_spline.proofs.knots.push_newest.Goals as goal

pub returns-clause-rises : goal.returns-clause-rises
returns-clause-rises g c = λ up past.
    let items : c.push.new.self.items ≡ newest g.row.KNOTS (c.args.knots.now.items ++ c.args.point ∷ []) = grind (arith, common_steps) in
    rw items (rises-newest g.row.KNOTS c.args.knots.now.items c.args.point up past)
