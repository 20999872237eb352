use Rattle.fl_session.proofs.Exactly.{commands-exact}
use Rattle.fl_session.proofs.laws.commands_are_exact.Goals as goal

pub returns : goal.returns
returns c = commands-exact
