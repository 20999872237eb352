use Rattle.fl_sizing.proofs.PlanEnds.{planned}
use Rattle.fl_sizing.proofs.plan.plan_tables.Goals as goal

pub returns-in-Ok-clause-ends : goal.returns-in-Ok-clause-ends
returns-in-Ok-clause-ends g c = λ knots text is.
    planned knots c.args.interval text c.in-Ok.config (g.K.Sink.written c.args.out.now) (g.K.Sink.written c.write_figures.new.out) c.write_figures.result c.of.result c.in-Ok.ensures.whole (c.in-Ok.ensures.ended text is)
    c.write_figures.ensures.writes c.of.ensures
