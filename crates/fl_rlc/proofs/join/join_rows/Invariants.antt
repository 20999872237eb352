use Rattle.std.proofs.Common.{◌≡◌, ℕ, ◌≤◌, Bool, true, map, take, drop}
use Rattle.fl_model.specs.Bare.{bare, bare_table}
use Rattle.fl_model.specs.Facts.{IsLogPage}
use Rattle.fl_model.specs.Record.{Plan}
use Rattle.fl_model.specs.Row.{stored_row}
use Rattle.fl_model.specs.Table as model
use Rattle.fl_model.specs.Work.{Device}
use Rattle.fl_page.specs.Page.{rows_in}
use Rattle.fl_frame.specs.Watched.{IsWatched}
use Rattle.fl_table.specs.Look.{layout_in}
use Rattle.fl_table.specs.Memory.{is_running, is_stopped, pending_in, IsSamePlan, LiesOn}
use Rattle.fl_table.specs.Standing.{Stands}
use Rattle.fl_table.specs.declared.table.Table.{Table}
use Rattle.fl_rlc.specs.Joining.{all_taken}
use Rattle.fl_rlc.specs.Offering.{AreOffered}
use Rattle.fl_rlc.proofs.join.join_rows.Given as goal

abbrev pub invariant-loop-i : goal.invariant-loop-i
invariant-loop-i g l = record {
  still : g.F.Flash.state l.flash ≡ g.F.Flash.state l.initial.flash;
  same : IsSamePlan l.initial.table l.table;
  lies : LiesOn l.table (g.F.Flash.state l.flash);
  running : is_running l.table ≡ true;
  calm : is_stopped l.table ≡ is_stopped l.initial.table;
  few : pending_in l.table ≤ l.i;
  offers : (after : Table g.row.KNOTS g.row.SLOTS) → AreOffered l.table (drop l.i (rows_in (layout_in l.initial.table) l.buf.bytes)) after → AreOffered l.initial.table (rows_in (layout_in l.initial.table) l.buf.bytes) after;
  joins : (first : ℕ) (plan : Plan) (table_now : model.Table) (rose : Bool) (device : Device) → IsWatched (g.F.Flash.state l.initial.flash) (g.F.Flash.state l.initial.flash) rose device → Stands l.initial.table (g.F.Flash.state l.initial.flash) first (bare plan) (bare_table table_now) → IsLogPage plan table_now.logged →
      rows_in (layout_in l.initial.table) l.buf.bytes ≡ map stored_row table_now.logged → Stands l.table (g.F.Flash.state l.flash) first (bare plan) (all_taken (bare_table table_now) (take l.i table_now.logged));
}
