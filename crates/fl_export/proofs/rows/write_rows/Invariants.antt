use Rattle.std.proofs.Common.{◌≡◌, ℕ, ◌≤◌, IsTrue, List, length, map}
use Rattle.fl_cursor.specs.Cursor.{mark_of, left_of, IsReady, IsTold}
use Rattle.fl_cursor.specs.Going.{Keeps}
use Rattle.fl_model.specs.Record.{Plan}
use Rattle.fl_model.specs.Row.{stored_row}
use Rattle.fl_model.specs.Table as model
use Rattle.fl_model.specs.Table.{Entry}
use Rattle.fl_frame.specs.Contents.{contents_of, OnlyReads}
use Rattle.fl_table.specs.Standing.{Stands}
use Rattle.fl_export.specs.Text.{AreAmong}
use Rattle.fl_export.proofs.WrittenRecords.{room, SoFar}
use Rattle.fl_export.proofs.rows.write_rows.Given as goal

abbrev pub invariant-rows : goal.invariant-rows
invariant-rows g l = record {
  counts : OnlyReads (g.F.Flash.state l.fn.flash) (g.F.Flash.state l.flash);
  keeps : Keeps l.fn.cursor l.cursor;
  ready : IsReady l.cursor (contents_of (g.F.Flash.state l.fn.flash));
  space : length l.room.page.bytes ≡ length l.fn.room.page.bytes;
  later : g.K.Sink.faults l.fn.out ≤ g.K.Sink.faults l.out;
  far : (first : ℕ) (plan : Plan) (t : model.Table) (entries : List Entry) → IsTrue (g.F.Flash.state l.fn.flash).media.tells → Stands l.fn.table (g.F.Flash.state l.fn.flash) first plan t
      → IsTold l.fn.cursor (contents_of (g.F.Flash.state l.fn.flash)) → left_of l.fn.cursor (contents_of (g.F.Flash.state l.fn.flash)) ≡ map stored_row entries → AreAmong t.entries entries
      → SoFar plan t entries l.cursor (contents_of (g.F.Flash.state l.fn.flash)) (g.K.Sink.written l.fn.out) (g.K.Sink.written l.out);
}

abbrev pub decreases-rows : goal.decreases-rows
decreases-rows g l = room (mark_of l.cursor).after
