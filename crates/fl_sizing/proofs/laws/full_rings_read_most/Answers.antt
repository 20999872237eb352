use Rattle.fl_sizing.proofs.KeptRows.{full-reads}
use Rattle.fl_sizing.proofs.laws.full_rings_read_most.Goals as goal

pub returns : goal.returns
returns c = full-reads
