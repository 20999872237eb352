use Rattle.fl_storage_tests.proofs.cursors.Store.new.Goals as goal

pub returns-clause-lies : goal.returns-clause-lies
returns-clause-lies c = λ f lies. lies
