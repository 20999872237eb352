use Rattle.std.proofs.Common.{rules, arith, ◌≡◌, ◌<◌, Some}
use Rattle.fl_frame.specs.Contents.{contents_of}
use Rattle.fl_page.specs.Steps.{Ascends}
use Rattle.fl_ops.proofs.Joins.{pass-left, pass-right}
use Rattle.fl_ops.proofs.join.step_lesser.Goals as goal

-- the left row has the lesser key
pub returns-then-left_key-right_key-clause-pairs : goal.returns-then-left_key-right_key-clause-pairs
returns-then-left_key-right_key-clause-pairs g c = λ left right.
    let less : (g.A.RowHere.present c.args.left.now).key < (g.B.RowHere.present c.args.right.now).key = search rules in
    let raw : Ascends (g.B.RowHere.above c.args.right.now) (g.B.Rows.left c.args.right.now (contents_of (g.F.Flash.state c.args.flash.now)))
    = g.met.B.Rows.ascends c.args.right.now (contents_of (g.F.Flash.state c.args.flash.now)) right in
    let key : g.B.RowHere.above c.args.right.now ≡ Some (g.B.RowHere.present c.args.right.now).key = c.requires.right_key in
    let ascends : Ascends (Some (g.B.RowHere.present c.args.right.now).key) (g.B.Rows.left c.args.right.now (contents_of (g.F.Flash.state c.args.flash.now))) = rw key at raw in
    pass-left _ (g.A.RowHere.present c.args.left.now) (g.B.RowHere.present c.args.right.now) _ _ _ _ less ascends (c.step.ensures.steps left)

pub returns-clause-pairs : goal.returns-clause-pairs
returns-clause-pairs g c = λ left right.
    let left_is : c.key-left_key.result ≡ (g.A.RowHere.present c.args.left.now).key = search rules in
    let right_is : c.key-right_key.result ≡ (g.B.RowHere.present c.args.right.now).key = search rules in
    let less : (g.B.RowHere.present c.args.right.now).key < (g.A.RowHere.present c.args.left.now).key = omega (arith, left_is, right_is, c.if-left_key-right_key.false, c.requires.differ) in
    let raw : Ascends (g.A.RowHere.above c.args.left.now) (g.A.Rows.left c.args.left.now (contents_of (g.F.Flash.state c.args.flash.now)))
    = g.met.A.Rows.ascends c.args.left.now (contents_of (g.F.Flash.state c.args.flash.now)) left in
    let key : g.A.RowHere.above c.args.left.now ≡ Some (g.A.RowHere.present c.args.left.now).key = c.requires.left_key in
    let ascends : Ascends (Some (g.A.RowHere.present c.args.left.now).key) (g.A.Rows.left c.args.left.now (contents_of (g.F.Flash.state c.args.flash.now))) = rw key at raw in
    pass-right _ (g.A.RowHere.present c.args.left.now) (g.B.RowHere.present c.args.right.now) _ _ _ _ less ascends (c.step-2.ensures.steps right)
