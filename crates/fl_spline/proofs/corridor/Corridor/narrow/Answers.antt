use Rattle.std.proofs.Common.{arith, refl, ◌+◌, ◌-◌}
use Rattle.fl_spline.proofs.Slopes.{Covers-more}
use Rattle.fl_spline.proofs.corridor.Corridor.narrow.Goals as goal

pub returns-clause-covers : goal.returns-clause-covers
returns-clause-covers c = λ points k.
    rw (c.lesser_of-self.ensures, c.greater_of-self.ensures)
    (Covers-more c.args.error c.args.self.now points c.args.point
    record { rise = c.from.result + c.from-2.result; run = c.args.point.0 - c.args.self.now.base.0 }
    record { rise = c.from-low.result; run = c.args.point.0 - c.args.self.now.base.0 }
    c.requires.0 (omega arith) refl (omega arith) refl k)
