use Rattle.std.proofs.Common.{◌≡◌, ◌≤◌, ◌*◌, ◌^◌, take}
use Rattle.std.specs.List.{sum_by}
use Rattle.fl_sizing.specs.Sizes.{table_memory}
use Rattle.fl_sizing.proofs.figures.device_bytes.Given as goal

abbrev pub invariant-loop-i : goal.invariant-loop-i
invariant-loop-i l = (l.bytes ≡ sum_by table_memory (take l.i l.config.plans)) × (l.bytes ≤ l.i * 2 ^ 32)
