use Rattle.std.proofs.Common.{refl}
use Rattle.fl_shell.proofs.talk.answer_in_hand.Goals as goal

pub returns-then-has_line-clause-told : goal.returns-then-has_line-clause-told
returns-then-has_line-clause-told g c = rw c.if-has_line.true c.answer.ensures.told

pub returns-else-has_line-clause-told : goal.returns-else-has_line-clause-told
returns-else-has_line-clause-told g c = rw c.if-has_line.false (refl, refl, refl)
