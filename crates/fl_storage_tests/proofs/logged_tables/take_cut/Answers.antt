use Rattle.fl_frame.proofs.CallsInTurn.{goes-on, stays-set, stays-then}
use Rattle.fl_rlc.proofs.Powered.{lies-on}
use Rattle.fl_storage_tests.proofs.logged_tables.take_cut.Goals as goal

pub take-answer-requires-clause-lies : goal.take-answer-requires-clause-lies
take-answer-requires-clause-lies c = rw c.arm.ensures (lies-on _ _ _ (stays-set _ _ _) c.requires.lies)

pub returns-clause-goes : goal.returns-clause-goes
returns-clause-goes c = rw c.power_on.ensures (stays-then _ _ _ (stays-then {First = Unit {0}} _ _ _ (rw c.arm.ensures (stays-set _ _ _)) c.take-answer.ensures.goes) (goes-on _))

pub returns-clause-lies : goal.returns-clause-lies
returns-clause-lies c = rw c.power_on.ensures (lies-on _ _ _ (goes-on _) c.take-answer.ensures.lies)
