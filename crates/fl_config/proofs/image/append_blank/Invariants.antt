use Rattle.std.proofs.Common.{◌-◌, ◌≤◌, replicate}
use Rattle.fl_config.specs.Opening.{Grown}
use Rattle.fl_config.proofs.image.append_blank.Given as goal

abbrev pub invariant-loop-left : goal.invariant-loop-left
invariant-loop-left g l = record {
  some : l.left ≤ l.count;
  grown : Grown (g.M.Media.state l.fn.media) (replicate (l.count - l.left) 255) (g.M.Media.state l.media);
}

abbrev pub decreases-loop-left : goal.decreases-loop-left
decreases-loop-left g l = l.left
