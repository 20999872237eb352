use Rattle.std.proofs.Common.{rules, ◌≡◌, ◌∷◌}
use Rattle.fl_frame.specs.Contents.{contents_of}
use Rattle.fl_page.specs.Steps.{Steps}
use Rattle.fl_frame.proofs.ContentsInTurn.{OnlyReads-then}
use Rattle.fl_ops.proofs.Calls.{caused-later}
use Rattle.fl_ops.proofs.Joins.{begin-pairs}
use Rattle.fl_ops.proofs.join.step_both.Goals as goal

pub returns-clause-reads_only : goal.returns-clause-reads_only
returns-clause-reads_only g c = OnlyReads-then _ _ _ c.step.ensures.reads_only c.step-2.ensures.reads_only

pub returns-clause-pairs : goal.returns-clause-pairs
returns-clause-pairs g c = λ left right.
    let first : g.A.Rows.left c.args.left.now (contents_of (g.F.Flash.state c.args.flash.now)) ≡ g.A.RowHere.present c.step.new.self ∷ g.A.Rows.left c.step.new.self (contents_of (g.F.Flash.state c.args.flash.now)) = search rules in
    let next : Steps c.step-2.result (g.B.Rows.left c.args.right.now (contents_of (g.F.Flash.state c.args.flash.now))) (g.B.RowHere.present c.step-2.new.self) (g.B.Rows.left c.step-2.new.self (contents_of (g.F.Flash.state c.args.flash.now))) = search rules in
    begin-pairs _ _ _ _ _ _ _ first next

pub returns-clause-cause : goal.returns-clause-cause
returns-clause-cause g c = caused-later (g.F.Flash.state c.args.flash.now) (g.F.Flash.state c.step.new.flash) (g.F.Flash.state c.step-2.new.flash) c.step-2.result c.step.ensures.reads_only c.step-2.ensures.cause
