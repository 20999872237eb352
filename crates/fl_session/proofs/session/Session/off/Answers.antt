use Rattle.fl_session.proofs.Sound.{sound-off}
use Rattle.fl_session.proofs.StepsOf.{answers-off}
use Rattle.fl_session.specs.Caused.{state_of}
use Rattle.fl_words.specs.Reply as reply
use Rattle.fl_flash.specs.Flash.{FlashState}
use Rattle.std.proofs.Common.{false, refl, ap}
use Rattle.fl_session.proofs.session.Session.off.Goals as goal

pub returns-clause-step : goal.returns-clause-step
returns-clause-step g c = λ config old h. answers-off config old c.args.self.now.tables.entries.items c.args.self.now.notes _ _ c.args.self.now.mounted c.power_off.ensures h

pub returns-clause-sound : goal.returns-clause-sound
returns-clause-sound g c = sound-off _ _ _ _ _ _ c.args.self.now.notes c.power_off.ensures c.forget.ensures.rows c.forget.ensures.index c.forget.ensures.right c.forget.ensures.none c.requires

pub returns-clause-cause : goal.returns-clause-cause
returns-clause-cause g c = record { reply = reply.Done; said_is = refl; holds = (refl, ap (λ (f : FlashState). state_of c.args.self.now.tables.entries.items false c.args.self.now.notes f) c.power_off.ensures) }
