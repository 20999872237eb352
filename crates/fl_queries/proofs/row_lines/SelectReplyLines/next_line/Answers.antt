use Rattle.std.proofs.Common.{refl}
use Rattle.fl_queries.specs.Rows.{row_reply}
use Rattle.fl_queries.proofs.LineSteps.{here-true, rises-line, steps-rows}
use Rattle.fl_queries.proofs.row_lines.SelectReplyLines.next_line.Goals as goal

pub returns-clause-fits : goal.returns-clause-fits
returns-clause-fits g c = λ form h. rw c.step.ensures.schema h

pub returns-clause-here : goal.returns-clause-here
returns-clause-here g c = here-true c.step.result _ c.step.ensures.here

pub returns-clause-makes : goal.returns-clause-makes
returns-clause-makes g c = λ form first before h.
    rises-line (g.R.RowHere.above first.rows) (g.R.RowHere.above c.args.self.now.rows) (g.R.RowHere.above c.step.new.self.rows) before (row_reply form.blobs (g.R.RowHere.present c.step.new.self.rows)) (g.R.RowHere.present c.step.new.self.rows).key
    c.step.result refl c.step.ensures.key c.step.ensures.never_falls h

pub returns-clause-same_test : goal.returns-clause-same_test
returns-clause-same_test g c = λ contents bad h. (c.step.ensures.same_test contents bad).0 h

pub returns-clause-steps : goal.returns-clause-steps
returns-clause-steps g c = λ form told. steps-rows (row_reply form.blobs) c.step.result _ _ _ (c.step.ensures.steps told)
