use Rattle.fl_table.proofs.table.Table.is_running.Goals as goal

pub returns : goal.returns
returns g c = c.is_some.ensures
