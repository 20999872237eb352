-- The configuration, line by line.
use Rattle.std.proofs.Common.{◌≡◌, true, false, Result, Ok, Err, ap, is_err}
use Rattle.fl_plan.specs.declared.refusal.ConfigRefusal.{ConfigRefusal}
use Rattle.fl_config.specs.Taking.{Takes}
use Rattle.fl_words.specs.Command as command
use Rattle.fl_words.specs.Command.{Command}
use Rattle.fl_words.specs.Config.{Lines, configured}
use Rattle.fl_machine.specs.Script.{start_config}
use Rattle.fl_session.specs.Next.{is_config_line}
use Rattle.fl_session.specs.Begin.{GoesOn}

-- a line of the configuration goes on with it
pub configured-goes_on : (old now : Lines) (c : Command) → is_config_line c ≡ true → configured old c ≡ Ok now → GoesOn old c now
configured-goes_on old now (command.Device page block) e h = λ knots n line others go. ap (λ r. start_config n r go) h
configured-goes_on old now (command.Table words) e h = λ knots n line others go. ap (λ r. start_config n r go) h
configured-goes_on old now c e h = cc

-- a line that was taken
pub takes-ok : (old new : Lines) (c : Command) (r : Result (Unit {0}) ConfigRefusal) → is_err r ≡ false → Takes old c r new → configured old c ≡ Ok new
takes-ok old new c (Ok done) e h = h
takes-ok old new c (Err refusal) e h = cc
