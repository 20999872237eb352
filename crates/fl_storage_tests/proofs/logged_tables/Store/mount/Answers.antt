use Rattle.fl_frame.proofs.CallsInTurn.{stays}
use Rattle.fl_storage_tests.proofs.logged_tables.Store.mount.Goals as goal

pub returns-clause-goes : goal.returns-clause-goes
returns-clause-goes g c = stays _ _ c.mount.ensures.flash.goes

pub returns-clause-lies : goal.returns-clause-lies
returns-clause-lies g c = c.mount.ensures.memory.lies

pub returns-clause-room : goal.returns-clause-room
returns-clause-room g c = c.mount.ensures.buffer.room
