use Rattle.std.proofs.Common.{sym, ◌∙◌}
use Rattle.fl_script.proofs.Puts.{with_blob, no_blob}
use Rattle.fl_script.proofs.put.blob_split.Goals as goal

pub returns-then-is-clause-split : goal.returns-then-is-clause-split
returns-then-is-clause-split c = with_blob _ _ _ _ _ c.in-Some.ensures.cases.0 c.in-Some-split_last.ensures.cases.0 (sym c.is.ensures ∙ c.if-is.true)

pub returns-else-is-clause-split : goal.returns-else-is-clause-split
returns-else-is-clause-split c = no_blob _ _ _ _ _ c.in-Some.ensures.cases.0 c.in-Some-split_last.ensures.cases.0 (sym c.is.ensures ∙ c.if-is.false)
