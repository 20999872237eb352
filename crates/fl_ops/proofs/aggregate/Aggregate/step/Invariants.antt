use Rattle.std.proofs.Common.{◌≡◌, ◌≤◌, ◌<◌, ◌+◌, ◌-◌, ◌*◌, ◌^◌, false}
use Rattle.fl_frame.specs.Contents.{contents_of, OnlyReads}
use Rattle.fl_ops.specs.Columns.{records_of}
use Rattle.fl_ops.specs.Inputs.{Continues}
use Rattle.fl_ops.specs.Tally.{HasBounds}
use Rattle.fl_ops.proofs.Room.{next_key, room}
use Rattle.fl_ops.proofs.GroupLists.{take_group}
use Rattle.fl_ops.proofs.aggregate.Aggregate.step.Given as goal

abbrev pub invariant-loop-self : goal.invariant-loop-self
invariant-loop-self g l =
    let H = g.R.RowHere in
    let R = g.R.Rows in
    let contents = contents_of (g.F.Flash.state l.fn.flash) in
    record {
      reads_only : OnlyReads (g.F.Flash.state l.fn.flash) (g.F.Flash.state l.flash);
      column : l.self.column ≡ l.fn.self.column;
      width : l.self.width ≡ l.fn.self.width;
      none_waits : l.self.waiting ≡ false;
      input : Continues R.names H.schema H.above R.ready R.told R.passes contents l.fn.self.rows l.self.rows;
      sound : R.sound l.self.rows contents → R.sound l.fn.self.rows contents;
      some : 1 ≤ l.tally.count;
      count : l.tally.count + l.group * l.fn.self.width ≤ next_key (H.above l.self.rows);
      bounds : HasBounds l.fn.self.column (next_key (H.above l.self.rows)) l.tally;
      rest : R.told l.fn.self.rows contents →
          take_group l.fn.self.column l.fn.self.width l.group l.tally (records_of (R.left l.self.rows contents))
          ≡ take_group l.fn.self.column l.fn.self.width l.group l.initial.tally (records_of (R.left l.initial.self.rows contents));
      most : R.told l.fn.self.rows contents →
          (g.F.Flash.state l.flash).work.reads + R.most l.self.rows contents ≤ (g.F.Flash.state l.fn.flash).work.reads + R.most l.fn.self.rows contents;
      least : R.told l.fn.self.rows contents → (g.F.Flash.state l.flash).work.reads < 2 ^ 64 - 1 →
          (g.F.Flash.state l.fn.flash).work.reads + R.least l.fn.self.rows contents ≤ (g.F.Flash.state l.flash).work.reads + R.least l.self.rows contents;
    }

abbrev pub decreases-loop-self : goal.decreases-loop-self
decreases-loop-self g l = room (g.R.RowHere.above l.self.rows)
