use Rattle.fl_storage_tests.proofs.logged_tables.Store.new.Goals as goal

pub returns-clause-lies : goal.returns-clause-lies
returns-clause-lies c = c.in_ok-table.ensures
