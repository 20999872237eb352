use Rattle.fl_sizing.proofs.MountReads.{full-entries}
use Rattle.fl_sizing.proofs.laws.full_entries_read_most.Goals as goal

pub returns : goal.returns
returns c = full-entries
