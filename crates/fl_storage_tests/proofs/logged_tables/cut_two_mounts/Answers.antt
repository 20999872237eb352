use Rattle.fl_frame.proofs.CallsInTurn.{stays-then}
use Rattle.fl_storage_tests.proofs.logged_tables.cut_two_mounts.Goals as goal

pub returns-clause-goes : goal.returns-clause-goes
returns-clause-goes c = stays-then _ _ _ c.take_cut-first.ensures.goes c.take_cut-second.ensures.goes
