use Rattle.fl_script.proofs.WordsOfLine.{dropped, kept}
use Rattle.fl_script.proofs.words.without_return.Goals as goal

pub returns-then-last-eq13-clause-trimmed : goal.returns-then-last-eq13-clause-trimmed
returns-then-last-eq13-clause-trimmed c = dropped _ _ _ c.in-Some.ensures.cases.0 c.if-last-eq13.true

pub returns-else-last-eq13-clause-trimmed : goal.returns-else-last-eq13-clause-trimmed
returns-else-last-eq13-clause-trimmed c = kept _ _ _ c.in-Some.ensures.cases.0 c.if-last-eq13.false
