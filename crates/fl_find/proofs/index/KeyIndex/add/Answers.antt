use Rattle.std.proofs.Common.{arith, rules, ◌≡◌, ◌∙◌, length}
use Rattle.fl_spline.specs.Points.{oldest_key}
use Rattle.fl_spline.specs.Spline.{kept}
use Rattle.fl_find.proofs.index.KeyIndex.add.Goals as goal

pub invariant_of-self : goal.invariant_of-self
invariant_of-self g c =
    let count : length (kept c.add.new.self) ≡ length (kept c.args.self.now.spline) = omega (arith, c.knots.ensures.count, c.knots-count.ensures.count, c.if-knots-count.true) in
    let oldest : oldest_key (kept c.add.new.self) ≡ oldest_key (kept c.args.self.now.spline) = search rules in
    record {
      same = c.add.ensures.error ∙ c.args.self.now.same;
      follows = c.follow_last.ensures (kept c.args.self.now.spline) c.args.self.now.follows (c.add.ensures.moved count oldest);
    }
