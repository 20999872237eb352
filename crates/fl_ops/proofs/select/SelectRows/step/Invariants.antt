use Rattle.std.proofs.Common.{◌≡◌, ◌≤◌, ◌<◌, ◌+◌, ◌-◌, ◌^◌, true, filter}
use Rattle.fl_frame.specs.Contents.{contents_of, OnlyReads}
use Rattle.fl_ops.specs.Columns.{row_passes}
use Rattle.fl_ops.specs.Inputs.{Continues}
use Rattle.fl_ops.specs.Select.{comparison_of}
use Rattle.fl_ops.proofs.Room.{room}
use Rattle.fl_ops.proofs.select.SelectRows.step.Given as goal

abbrev pub invariant-loop-number : goal.invariant-loop-number
invariant-loop-number g l =
    let H = g.R.RowHere in
    let R = g.R.Rows in
    let contents = contents_of (g.F.Flash.state l.initial.flash) in
    record {
      reads_only : OnlyReads (g.F.Flash.state l.initial.flash) (g.F.Flash.state l.flash);
      comparison : comparison_of l.self ≡ comparison_of l.initial.self;
      input : Continues R.names H.schema H.above R.ready R.told R.passes contents l.initial.self.rows l.self.rows;
      ended : R.ended l.initial.self.rows ≡ true → (R.ended l.self.rows ≡ true) × (g.F.Flash.state l.flash ≡ g.F.Flash.state l.initial.flash);
      sound : R.sound l.self.rows contents → R.sound l.initial.self.rows contents;
      left : R.told l.initial.self.rows contents →
          filter (row_passes (comparison_of l.initial.self)) (R.left l.self.rows contents)
          ≡ filter (row_passes (comparison_of l.initial.self)) (R.left l.initial.self.rows contents);
      most : R.told l.initial.self.rows contents →
          (g.F.Flash.state l.flash).work.reads + R.most l.self.rows contents ≤ (g.F.Flash.state l.initial.flash).work.reads + R.most l.initial.self.rows contents;
      least : R.told l.initial.self.rows contents → (g.F.Flash.state l.flash).work.reads < 2 ^ 64 - 1 →
          (g.F.Flash.state l.initial.flash).work.reads + R.least l.initial.self.rows contents ≤ (g.F.Flash.state l.flash).work.reads + R.least l.self.rows contents;
    }

abbrev pub decreases-loop-number : goal.decreases-loop-number
decreases-loop-number g l = room (g.R.RowHere.above l.self.rows)
