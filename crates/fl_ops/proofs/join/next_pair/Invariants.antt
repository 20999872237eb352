use Rattle.std.proofs.Common.{◌≡◌, ◌≤◌, ◌+◌, true, Some}
use Rattle.fl_model.specs.Operators.{key_join}
use Rattle.fl_frame.specs.Contents.{contents_of, OnlyReads}
use Rattle.fl_ops.specs.Columns.{records_of}
use Rattle.fl_ops.specs.Inputs.{Continues}
use Rattle.fl_ops.specs.Pairs.{pairs_from, keys_above}
use Rattle.fl_ops.proofs.join.next_pair.Given as goal

abbrev pub invariant-loop-left : goal.invariant-loop-left
invariant-loop-left g l =
    let HA = g.A.RowHere in
    let HB = g.B.RowHere in
    let A = g.A.Rows in
    let B = g.B.Rows in
    let contents = contents_of (g.F.Flash.state l.fn.flash) in
    record {
      reads_only : OnlyReads (g.F.Flash.state l.fn.flash) (g.F.Flash.state l.flash);
      left : Continues A.names HA.schema HA.above A.ready A.told A.passes contents l.fn.left l.left;
      right : Continues B.names HB.schema HB.above B.ready B.told B.passes contents l.fn.right l.right;
      left_sound : A.sound l.left contents → A.sound l.fn.left contents;
      right_sound : B.sound l.right contents → B.sound l.fn.right contents;
      left_here : HA.here l.left ≡ true;
      right_here : HB.here l.right ≡ true;
      left_key : HA.above l.left ≡ Some (HA.present l.left).key;
      right_key : HB.above l.right ≡ Some (HB.present l.right).key;
      pairs : A.told l.fn.left contents → B.told l.fn.right contents →
          key_join (records_of (A.left l.fn.left contents)) (records_of (B.left l.fn.right contents))
          ≡ pairs_from (HA.present l.left) (A.left l.left contents) (HB.present l.right) (B.left l.right contents);
      most : A.told l.fn.left contents → B.told l.fn.right contents →
          (g.F.Flash.state l.flash).work.reads + (A.most l.left contents + B.most l.right contents)
          ≤ (g.F.Flash.state l.fn.flash).work.reads + (A.most l.fn.left contents + B.most l.fn.right contents);
    }

abbrev pub decreases-loop-left : goal.decreases-loop-left
decreases-loop-left g l = keys_above (g.A.RowHere.above l.left) + keys_above (g.B.RowHere.above l.right)
