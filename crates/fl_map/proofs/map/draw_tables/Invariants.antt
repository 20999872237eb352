use Rattle.std.proofs.Common.{◌≡◌, ◌≤◌, ◌+◌, ◌*◌, ◌^◌, length, IsTrue}
use Rattle.fl_frame.specs.Reads.{OnlyLooks}
use Rattle.fl_map.specs.Canvas.{drawn_of}
use Rattle.fl_map.specs.Map.{AreDrawn}
use Rattle.fl_map.proofs.map.draw_tables.Given as goal

abbrev pub invariant-loop-i : goal.invariant-loop-i
invariant-loop-i g l = record {
  looks : OnlyLooks (g.F.Flash.state l.fn.flash) (g.F.Flash.state l.flash);
  room : length l.rooms.page.bytes ≡ (g.F.Flash.state l.fn.flash).geometry.page;
  drawing : l.canvas.drawing ≡ l.fn.canvas.drawing;
  top : l.canvas.top ≤ 48 + l.i * (60 * 2 ^ 32 + 28);
  drawn : IsTrue (g.F.Flash.state l.fn.flash).media.tells → AreDrawn l.fn.canvas.drawing l.config (g.F.Flash.state l.fn.flash).media.content l.i (drawn_of l.canvas);
}
