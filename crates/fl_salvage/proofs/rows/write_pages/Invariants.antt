use Rattle.std.proofs.Common.{◌≤◌, IsTrue, drop}
use Rattle.std.specs.List.{flat_map}
use Rattle.fl_image.specs.Image.{OnlyLooksAt}
use Rattle.fl_script.proofs.SinkPieces.{Sent}
use Rattle.fl_salvage.specs.Rooms.{HasRooms}
use Rattle.fl_salvage.specs.Text.{form_of, page_text}
use Rattle.fl_salvage.proofs.rows.write_pages.Given as goal

abbrev pub invariant-loop-i : goal.invariant-loop-i
invariant-loop-i g l = record {
  looks : OnlyLooksAt (g.M.Media.state l.fn.media) (g.M.Media.state l.media);
  rooms : HasRooms l.rooms l.table.rows.size;
  later : g.K.Sink.faults l.fn.out ≤ g.K.Sink.faults l.out;
  far : IsTrue (g.M.Media.state l.fn.media).tells → Sent (g.K.Sink.written l.fn.out) (g.K.Sink.written l.out) (flat_map (page_text (form_of l.table) (g.M.Media.state l.fn.media).content) l.numbers)
      (flat_map (page_text (form_of l.table) (g.M.Media.state l.fn.media).content) (drop l.i l.numbers));
}
