use Rattle.std.proofs.Common.{arith}
use Rattle.std.proofs.lemmas.Grind.{common_steps}
use Rattle.fl_spline.proofs.Slopes.{near-covers}
use Rattle.fl_spline.proofs.corridor.Corridor.admits.Goals as goal

pub returns-then-below : goal.returns-then-below
returns-then-below c = λ error points k.
    let near = near-covers error c.args.self.now points c.args.point c.requires.0 k in
    grind (arith, common_steps, near)

pub returns-else-below : goal.returns-else-below
returns-else-below c = λ error points k.
    let near = near-covers error c.args.self.now points c.args.point c.requires.0 k in
    grind (arith, common_steps, near)
