use Rattle.std.proofs.Common.{◌≡◌, ℕ, List, length, map, sym, ◌∙◌, ap, subst}
use Rattle.std.proofs.lemmas.List.{length-map}
use Rattle.fl_frame.specs.Contents.{contents_of}
use Rattle.fl_model.specs.Operators.{column_of, project}
use Rattle.fl_model.proofs.Lists.{each-push}
use Rattle.fl_ops.specs.Columns.{record_of, records_of}
use Rattle.fl_ops.specs.Inputs.{StepsOver}
use Rattle.fl_ops.specs.Project.{input_of, columns_of, fields_of}
use Rattle.fl_words.specs.Reply.{Fields}
use Rattle.fl_queries.specs.ListSays.{IsFields}
use Rattle.fl_queries.proofs.LineSteps.{here-true, makes-line, steps-map}
use Rattle.fl_queries.proofs.field_lines.ProjectReplyLines.next_line.Goals as goal

pub returns-clause-reads_only : goal.returns-clause-reads_only
returns-clause-reads_only g c = c.step.ensures.reads_only

pub returns-clause-names : goal.returns-clause-names
returns-clause-names g c = c.step.ensures.input.same_names

pub returns-clause-fits : goal.returns-clause-fits
returns-clause-fits g c = λ form h. rw c.step.ensures.columns h

pub returns-clause-here : goal.returns-clause-here
returns-clause-here g c = here-true c.step.result _ c.step.ensures.here

pub returns-clause-makes : goal.returns-clause-makes
returns-clause-makes g c = λ form first before h.
    let many : length (fields_of (columns_of c.step.new.self) (g.R.RowHere.present (input_of c.step.new.self))) ≡ length (columns_of first) =
    length-map (columns_of c.step.new.self) (column_of (record_of (g.R.RowHere.present (input_of c.step.new.self)))) ∙ ap (λ (columns : List ℕ). length columns) (c.step.ensures.columns ∙ h.0) in
    makes-line _ c.step.result before (Fields (fields_of (columns_of c.step.new.self) (g.R.RowHere.present (input_of c.step.new.self)))) (c.step.ensures.columns ∙ h.0, h.1) (c.step.ensures.columns ∙ h.0, each-push (IsFields (length (columns_of first))) before (Fields (fields_of (columns_of c.step.new.self) (g.R.RowHere.present (input_of c.step.new.self)))) h.1 many)

pub returns-clause-same_test : goal.returns-clause-same_test
returns-clause-same_test g c = λ contents bad h. (c.step.ensures.input.same_test contents bad).0 h

pub returns-clause-stays_told : goal.returns-clause-stays_told
returns-clause-stays_told g c = c.step.ensures.input.stays_told

pub returns-clause-steps : goal.returns-clause-steps
returns-clause-steps g c = λ form told.
    subst (λ (columns : List ℕ). StepsOver c.step.result (map Fields (project (columns_of c.args.self.now) (records_of (g.R.Rows.left (input_of c.args.self.now) (contents_of (g.F.Flash.state c.args.flash.now)))))) (Fields (fields_of columns (g.R.RowHere.present (input_of c.step.new.self))))
    (map Fields (project columns (records_of (g.R.Rows.left (input_of c.step.new.self) (contents_of (g.F.Flash.state c.args.flash.now))))))) (sym c.step.ensures.columns) (steps-map Fields c.step.result _ _ _ (c.step.ensures.steps told))
