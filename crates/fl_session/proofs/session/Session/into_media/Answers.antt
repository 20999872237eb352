use Rattle.std.proofs.Common.{Some, sym, subst}
use Rattle.fl_flash.specs.Media.{MediaState}
use Rattle.fl_machine.specs.Script.{StandsAfter}
use Rattle.fl_session.proofs.Rested.{session-ends}
use Rattle.fl_session.proofs.session.Session.into_media.Goals as goal

pub returns-clause-rests : goal.returns-clause-rests
returns-clause-rests g c = λ configured m stood. subst (λ (x : MediaState). StandsAfter configured (Some x.content) m) (sym c.end.ensures.state) (session-ends configured _ _ _ _ m stood)
