use Rattle.std.proofs.Common.{◌≡◌, ℕ, ◌+◌, ◌*◌, ◌≤◌, Bool, true, IsTrue, Some, List, slice_get}
use Rattle.fl_base.specs.Causes.{Rose}
use Rattle.fl_flash.specs.Flash.{Goes, page_at}
use Rattle.fl_model.specs.Record.{Config}
use Rattle.fl_machine.specs.Machine.{Machine}
use Rattle.fl_table.specs.Look.{layout_in}
use Rattle.fl_rlc.specs.Table.{is_running, rings_in, IsSamePlan, LiesOn, OutsideStands, table_in}
use Rattle.fl_store.specs.Tables.{IsNamed}
use Rattle.fl_store.specs.declared.tables.Entry.{Entry}
use Rattle.fl_session.specs.Load.{StandsBefore, random_of, step_of}
use Rattle.fl_session.specs.LoadSays.{Loads, random_at}
use Rattle.fl_session.specs.declared.notes.Notes.{Notes}
use Rattle.fl_session.specs.Standing.{SessionStands}
use Rattle.fl_session.proofs.LoadPuts.{LoadedSoFar}
use Rattle.fl_session.proofs.load.load.Given as goal

abbrev pub invariant-loop-loaded : goal.invariant-loop-loaded
invariant-loop-loaded g l = record {
  lies : LiesOn l.table (g.F.Flash.state l.flash);
  running : is_running l.table ≡ is_running l.fn.table;
  goes : Goes (g.F.Flash.state l.fn.flash) (g.F.Flash.state l.flash);
  power : (g.F.Flash.state l.fn.flash).is_on ≡ true → (g.F.Flash.state l.flash).is_on ≡ true;
  unread : (g.F.Flash.state l.flash).work.reads ≡ (g.F.Flash.state l.fn.flash).work.reads;
  media_reads : (g.F.Flash.state l.flash).media.reads ≤ (g.F.Flash.state l.fn.flash).media.reads + l.loaded * rings_in l.fn.table;
  makes : StandsBefore (layout_in (table_in l.table)).columns l.seed (l.loaded + 1) l.records;
  step_is : step_of l.records ≡ l.step;
  random_is : random_of l.records ≡ random_at l.seed l.loaded;
  puts : Loads l.step l.seed l.loaded l.fn.table (g.F.Flash.state l.fn.flash) l.table (g.F.Flash.state l.flash);
  same : IsSamePlan l.fn.table l.table;
  outside : IsTrue (g.F.Flash.state l.fn.flash).media.tells → OutsideStands l.fn.table (page_at (g.F.Flash.state l.fn.flash)) (page_at (g.F.Flash.state l.flash));
  so_far : (config : Config) (entries : List Entry) (at : ℕ) (entry : Entry) (asked : List ℕ) (notes : Notes) (old : Machine) (rose : Bool) → SessionStands config entries (g.F.Flash.state l.fn.flash) true notes old →
      slice_get entries at ≡ Some entry → entry.table ≡ l.fn.table → IsNamed entries asked at → (Rose (g.F.Flash.state l.fn.flash).media.faults (g.F.Flash.state l.flash).media.faults → IsTrue rose) →
      LoadedSoFar config entries at entry asked notes old (g.F.Flash.state l.fn.flash).media.content l.table (g.F.Flash.state l.flash) rose l.count l.step l.seed l.loaded (random_of l.records);
}
