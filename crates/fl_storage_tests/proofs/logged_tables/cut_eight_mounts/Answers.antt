use Rattle.fl_frame.proofs.CallsInTurn.{stays-then}
use Rattle.fl_storage_tests.proofs.logged_tables.cut_eight_mounts.Goals as goal

pub returns-clause-goes : goal.returns-clause-goes
returns-clause-goes c =
    stays-then _ _ _ c.cut_two_mounts-first.ensures.goes
    (stays-then _ _ _ c.cut_two_mounts-second.ensures.goes (stays-then _ _ _ c.cut_two_mounts-third.ensures.goes c.cut_two_mounts-fourth.ensures.goes))
