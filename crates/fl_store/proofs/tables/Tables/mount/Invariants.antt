use Rattle.std.proofs.Common.{◌≡◌, ℕ, Bool, false, true, IsTrue, ◌+◌, ◌*◌, ◌<◌, ◌≤◌, Some, List, length, take, slice_get}
use Rattle.fl_base.specs.Causes.{Rose}
use Rattle.fl_flash.specs.Flash.{Goes, page_at}
use Rattle.fl_machine.specs.Reads.{mounts_limit}
use Rattle.fl_model.specs.Record.{Plan}
use Rattle.fl_model.specs.Table as model
use Rattle.fl_model.specs.Work.{Device}
use Rattle.fl_frame.specs.Device.{SameDevice}
use Rattle.fl_rlc.specs.Table.{NothingWaits, is_running}
use Rattle.fl_parts.specs.IndexMount.{FewRepairs}
use Rattle.fl_store.specs.Mounting.{AreSameNames, AreSamePlans, MountsInTurn, OutsideStands, repairs_of}
use Rattle.fl_store.specs.Tables.{LieOn, TablesStand, pages_of}
use Rattle.fl_store.specs.declared.tables.Entry.{Entry}
use Rattle.fl_store.proofs.MountedSoFar.{MountedSoFar}
use Rattle.fl_store.proofs.TableRepairs.{IsKnown, LeavesFirst}
use Rattle.fl_store.proofs.tables.Tables.mount.Given as goal

abbrev pub invariant-loop-i : goal.invariant-loop-i
invariant-loop-i g l = record {
  lie : LieOn l.self.entries.items (g.F.Flash.state l.flash);
  room : length l.buf.bytes ≡ (g.F.Flash.state l.flash).geometry.page;
  same_room : length l.buf.bytes ≡ length l.fn.buf.bytes;
  as_many : length l.self.entries.items ≡ length l.fn.self.entries.items;
  same : AreSamePlans l.fn.self.entries.items l.self.entries.items;
  names : AreSameNames l.fn.self.entries.items l.self.entries.items;
  goes : Goes (g.F.Flash.state l.fn.flash) (g.F.Flash.state l.flash);
  power : (g.F.Flash.state l.fn.flash).is_on ≡ true → (g.F.Flash.state l.flash).is_on ≡ true;
  running : (j : ℕ) (entry : Entry) → j < l.i → slice_get l.self.entries.items j ≡ Some entry → is_running entry.table ≡ true;
  none : (j : ℕ) (entry : Entry) → j < l.i → slice_get l.self.entries.items j ≡ Some entry → NothingWaits entry.table;
  ahead : (j : ℕ) → l.i ≤ j → slice_get l.self.entries.items j ≡ slice_get l.fn.self.entries.items j;
  reads : IsTrue (g.F.Flash.state l.fn.flash).media.tells → (g.F.Flash.state l.flash).work.reads ≤ (g.F.Flash.state l.fn.flash).work.reads + 4 * pages_of (take l.i l.fn.self.entries.items);
  in_turn : IsTrue (g.F.Flash.state l.fn.flash).media.tells → MountsInTurn l.i l.fn.self.entries.items l.self.entries.items (g.F.Flash.state l.fn.flash) (g.F.Flash.state l.flash);
  repairs : FewRepairs (repairs_of (take l.i l.fn.self.entries.items)) (g.F.Flash.state l.fn.flash) (g.F.Flash.state l.flash);
  outside : IsTrue (g.F.Flash.state l.fn.flash).media.tells → OutsideStands (take l.i l.fn.self.entries.items) (page_at (g.F.Flash.state l.fn.flash)) (page_at (g.F.Flash.state l.flash));
  leaves : IsTrue (g.F.Flash.state l.fn.flash).media.tells → (plans : List Plan) (tables : List model.Table) → TablesStand (g.F.Flash.state l.fn.flash) (λ i. false) plans l.fn.self.entries.items tables →
      IsKnown l.fn.self.entries.items (g.F.Flash.state l.fn.flash) (g.F.Flash.state l.flash) → LeavesFirst plans (g.F.Flash.state l.fn.flash).geometry l.i (page_at (g.F.Flash.state l.fn.flash)) (page_at (g.F.Flash.state l.flash));
  so_far : (plans : List Plan) (tables : List model.Table) (rose : Bool) (device : Device) → IsTrue (g.F.Flash.state l.fn.flash).media.tells → (g.F.Flash.state l.fn.flash).is_on ≡ true → SameDevice (g.F.Flash.state l.fn.flash) device →
      TablesStand (g.F.Flash.state l.fn.flash) (λ i. false) plans l.fn.self.entries.items tables → (Rose (g.F.Flash.state l.fn.flash).media.faults (g.F.Flash.state l.flash).media.faults → IsTrue rose) →
      MountedSoFar plans tables rose device l.i l.self.entries.items (g.F.Flash.state l.flash)
      × ((g.F.Flash.state l.flash).work.reads ≤ (g.F.Flash.state l.fn.flash).work.reads + mounts_limit (take l.i plans) tables);
}
