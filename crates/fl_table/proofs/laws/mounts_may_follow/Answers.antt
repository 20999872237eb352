use Rattle.fl_table.proofs.FurtherMounts.{mounts-follow}
use Rattle.fl_table.proofs.laws.mounts_may_follow.Goals as goal

pub returns : goal.returns
returns c = mounts-follow
