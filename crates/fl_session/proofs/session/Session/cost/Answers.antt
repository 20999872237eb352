use Rattle.fl_session.proofs.CountedReads.{cost-answers}
use Rattle.fl_session.specs.Cost.{cost_of}
use Rattle.fl_machine.specs.Step.{cost_reply}
use Rattle.std.proofs.Common.{refl}
use Rattle.fl_session.proofs.session.Session.cost.Goals as goal

pub returns-clause-step : goal.returns-clause-step
returns-clause-step g c = λ config old h. cost-answers config old _ _ _ _ _ h c.cost_reply.ensures

pub returns-clause-cause : goal.returns-clause-cause
returns-clause-cause g c = record { reply = cost_reply (cost_of c.args.self.now.notes.cost); said_is = c.cost_reply.ensures; holds = (refl, refl) }
