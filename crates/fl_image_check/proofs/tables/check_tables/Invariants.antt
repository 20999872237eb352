use Rattle.std.proofs.Common.{◌≡◌, ◌≤◌, true, IsTrue}
use Rattle.fl_frame.specs.Reads.{OnlyLooks}
use Rattle.fl_image_check.specs.Checking.{FindsBy, Tells}
use Rattle.fl_image_check.specs.declared.extent.Extent.TheVariants.{FirstFault}
use Rattle.fl_image_check.proofs.tables.check_tables.Given as goal

abbrev pub invariant-loop-i : goal.invariant-loop-i
invariant-loop-i g l = record {
  looks : OnlyLooks (g.F.Flash.state l.fn.flash) (g.F.Flash.state l.flash);
  told : IsTrue (g.F.Flash.state l.fn.flash).media.tells → Tells l.extent (FindsBy l.extent g.C.CheckTable.finds g.C.CheckTable.rules) l.config (g.F.Flash.state l.fn.flash).media.content (g.K.Sink.written l.fn.out) (g.K.Sink.written l.out) l.i l.sound;
  first : l.extent ≡ FirstFault → l.sound ≡ true;
  later : g.K.Sink.faults l.fn.out ≤ g.K.Sink.faults l.out;
}
