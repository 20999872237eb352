use Rattle.fl_session.proofs.Sound.{sound-cut}
use Rattle.fl_session.proofs.StepsOf.{answers-cut}
use Rattle.fl_session.specs.Caused.{state_of}
use Rattle.fl_words.specs.Reply as reply
use Rattle.fl_flash.specs.Flash.{FlashState}
use Rattle.std.proofs.Common.{refl, ap}
use Rattle.fl_session.proofs.session.Session.cut.Goals as goal

pub returns-clause-step : goal.returns-clause-step
returns-clause-step g c = λ config old h. answers-cut config old c.args.self.now.tables.entries.items c.args.self.now.notes _ _ c.args.self.now.mounted c.args.n c.args.kind c.requires.counted c.arm.ensures h

pub returns-clause-sound : goal.returns-clause-sound
returns-clause-sound g c = sound-cut _ _ _ _ _ c.args.self.now.mounted c.args.self.now.notes c.arm.ensures c.requires.sound

pub returns-clause-cause : goal.returns-clause-cause
returns-clause-cause g c = record { reply = reply.Done; said_is = refl; holds = (refl, ap (λ (f : FlashState). state_of c.args.self.now.tables.entries.items c.args.self.now.mounted c.args.self.now.notes f) c.arm.ensures) }
