use Rattle.fl_ring.proofs.WornCalls.{mounts_quiet}
use Rattle.fl_ring.proofs.laws.quiet_mounts_erase_nothing.Goals as goal

pub returns : goal.returns
returns c = mounts_quiet
