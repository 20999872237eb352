use Rattle.std.proofs.Common.{◌≡◌, ◌≤◌, IsTrue, length, drop}
use Rattle.std.specs.List.{flat_map}
use Rattle.fl_image.specs.Image.{OnlyLooksAt}
use Rattle.fl_page.specs.View.{rows_of}
use Rattle.fl_script.proofs.SinkPieces.{Sent}
use Rattle.fl_salvage.specs.Text.{form_of, row_text}
use Rattle.fl_salvage.proofs.rows.write_rows.Given as goal

abbrev pub invariant-loop-i : goal.invariant-loop-i
invariant-loop-i g l = record {
  looks : OnlyLooksAt (g.M.Media.state l.fn.media) (g.M.Media.state l.media);
  space : length l.room.page.items ≡ l.table.rows.size;
  later : g.K.Sink.faults l.fn.out ≤ g.K.Sink.faults l.out;
  far : IsTrue (g.M.Media.state l.fn.media).tells → Sent (g.K.Sink.written l.fn.out) (g.K.Sink.written l.out) (flat_map (row_text (form_of l.table) (g.M.Media.state l.fn.media).content) (rows_of l.view))
      (flat_map (row_text (form_of l.table) (g.M.Media.state l.fn.media).content) (drop l.i (rows_of l.view)));
}
