use Rattle.fl_machine.proofs.WholeReads.{reads-add-up}
use Rattle.fl_machine.proofs.reads_add_up.Goals as goal

pub returns : goal.returns
returns c = reads-add-up
