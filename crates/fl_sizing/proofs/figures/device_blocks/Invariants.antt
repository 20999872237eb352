use Rattle.std.proofs.Common.{◌≡◌, ◌≤◌, ◌*◌, ◌^◌, take}
use Rattle.std.specs.List.{sum_by}
use Rattle.fl_sizing.specs.Sizes.{blocks_wanted}
use Rattle.fl_sizing.proofs.figures.device_blocks.Given as goal

abbrev pub invariant-loop-i : goal.invariant-loop-i
invariant-loop-i l = (l.blocks ≡ sum_by blocks_wanted (take l.i l.config.plans)) × (l.blocks ≤ l.i * 2 ^ 35)
