use Rattle.std.proofs.Common.{length, ◌-◌, ◌≡◌, ◌+◌, ◌^◌, ◌<◌, ◌≤◌}
use Rattle.fl_var.specs.Memory.{next_in}
use Rattle.fl_var.proofs.BufferedBytes.{Writes}
use Rattle.fl_var.proofs.var_data.VarData.write.Given as goal

abbrev pub invariant-loop-done : goal.invariant-loop-done
invariant-loop-done g l =
    Writes l.fn.self (g.F.Flash.state l.fn.flash) l.fn.bytes l.done l.self (g.F.Flash.state l.flash) × (l.bytes ≡ l.fn.bytes) × (length l.fn.bytes ≤ 1500) × (next_in l.fn.self + 63 < 2 ^ 32)

abbrev pub decreases-loop-done : goal.decreases-loop-done
decreases-loop-done g l = length l.bytes - l.done
