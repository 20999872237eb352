use Rattle.fl_script.proofs.WordsOfLine.{dropped, kept}
use Rattle.fl_import.proofs.names.without_return.Goals as goal

pub returns-then-last-eq13 : goal.returns-then-last-eq13
returns-then-last-eq13 c = dropped _ _ _ c.in-Some.ensures.cases.0 c.if-last-eq13.true

pub returns-else-last-eq13 : goal.returns-else-last-eq13
returns-else-last-eq13 c = kept _ _ _ c.in-Some.ensures.cases.0 c.if-last-eq13.false
