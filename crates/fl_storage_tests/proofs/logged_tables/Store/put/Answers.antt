use Rattle.fl_frame.proofs.CallsInTurn.{stays}
use Rattle.fl_storage_tests.proofs.logged_tables.Store.put.Goals as goal

pub returns-clause-goes : goal.returns-clause-goes
returns-clause-goes g c = stays _ _ c.put.ensures.flash.goes

pub returns-clause-lies : goal.returns-clause-lies
returns-clause-lies g c = c.put.ensures.table.lies
