use Rattle.fl_library_example.proofs.first_hour.Goals as goal

pub collect-requires-clause-ready : goal.collect-requires-clause-ready
collect-requires-clause-ready c = c.scan-found.ensures.ready _ c.ready.ensures.lie c.in_ok-env.ensures.room.rows c.in_ok-env.ensures.room.index
