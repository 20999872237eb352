use Rattle.std.proofs.Common.{◌≡◌, take}
use Rattle.fl_config.proofs.image.compare.Given as goal

abbrev pub invariant-loop-at : goal.invariant-loop-at
invariant-loop-at l = take l.at l.wanted ≡ take l.at l.found
