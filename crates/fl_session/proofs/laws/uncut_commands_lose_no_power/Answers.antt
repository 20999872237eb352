use Rattle.fl_session.proofs.Unarmed.{uncut-keeps-power}
use Rattle.fl_session.proofs.laws.uncut_commands_lose_no_power.Goals as goal

pub returns : goal.returns
returns c = uncut-keeps-power
