use Rattle.std.proofs.Common.{◌∙◌, ap}
use Rattle.fl_cursor.specs.Asked.{asked_by}
use Rattle.fl_queries.proofs.cursors.open_cursor.Goals as goal

pub returns-clause-mark : goal.returns-clause-mark
returns-clause-mark c = c.park.ensures.mark ∙ c.begin.ensures.mark

pub returns-clause-begins : goal.returns-clause-begins
returns-clause-begins c = λ f first plan t stands. ap asked_by c.park.ensures.mark ∙ c.begin.ensures.model f first plan t stands
