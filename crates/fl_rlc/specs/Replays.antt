-- What the replay of a log leaves: in memory, after an Ok, after an error, and of the flash.
use Rattle.std.specs.Prelude.{◌≡◌, ℕ, ◌+◌, ◌*◌, Bool, true, IsTrue, []}
use Rattle.fl_flash.specs.Flash.{FlashState, Goes, page_at}
use Rattle.fl_frame.specs.Reads.{FewReads}
use Rattle.fl_frame.specs.Watched.{IsWatched}
use Rattle.fl_model.specs.Bare.{bare, bare_table}
use Rattle.fl_model.specs.Mount.{ready}
use Rattle.fl_model.specs.Record.{Plan, RowLayout, blocks_of}
use Rattle.fl_model.specs.Table as model
use Rattle.fl_model.specs.Work.{Device}
use Rattle.fl_page.specs.Writer.{Gathers}
use Rattle.fl_ring.specs.Ring.{room}
use Rattle.fl_parts.specs.Faults.{MountCausedBy}
use Rattle.fl_parts.specs.IndexMount.{FewRepairs}
use Rattle.fl_parts.specs.declared.mount_fault.MountFault.{MountFault}
use Rattle.fl_table.specs.Look.{layout_in}
use Rattle.fl_table.specs.Memory as table_words
use Rattle.fl_table.specs.Memory.{is_running, is_stopped, NothingWaits}
use Rattle.fl_table.specs.Mounting.{rings_in}
use Rattle.fl_table.specs.Standing as without_log
use Rattle.fl_table.specs.declared.table.Table.{Table}
use Rattle.fl_rlc.specs.Finding.{FindsLog, RefusesLog, StandBeside}
use Rattle.fl_rlc.specs.Left.{ReplayLeaves}
use Rattle.fl_rlc.specs.Memory.{is_mounted, log_shape, rows_in, IsSamePlan, LiesOn}
use Rattle.fl_rlc.specs.Repairing.{Rests}
use Rattle.fl_rlc.specs.declared.log.RecordLog.{RecordLog}

-- However it ends, what no call changes is the same, table and log lie on the flash that is left, and no row is gathered.
pub record ReplayKeeps {KNOTS SLOTS : ℕ} (log : RecordLog) (table : Table KNOTS SLOTS) (log_now : RecordLog) (table_now : Table KNOTS SLOTS) (new : FlashState) : Type 0 where
  pub same : IsSamePlan log log_now
  pub lies : LiesOn log_now new
  pub empty : (layout : RowLayout) → Gathers layout [] (rows_in log_now)
  pub table_same : table_words.IsSamePlan table table_now
  pub table_lies : table_words.LiesOn table_now new

-- After an Ok the log is mounted and the table runs, nothing waits in it, and the power is on. What the log was found to keep is in
-- the table, where the flash tells its bytes.
pub record ReplayFinds {KNOTS SLOTS : ℕ} (log : RecordLog) (table : Table KNOTS SLOTS) (old : FlashState) (log_now : RecordLog) (table_now : Table KNOTS SLOTS) (new : FlashState) : Type 0 where
  pub mounted : is_mounted log_now ≡ true
  pub running : is_running table_now ≡ true
  pub calm : is_stopped table_now ≡ is_stopped table
  pub table_empty : NothingWaits table_now
  pub power : new.is_on ≡ true
  pub found : IsTrue old.media.tells → FindsLog (layout_in table) log old table log_now table_now new
  -- over a flash that stands for a table and its log, what it leaves of each page
  pub leaves : (first : ℕ) → (plan : Plan) → (t : model.Table) → (rose : Bool) → (device : Device) → IsWatched old new rose device → without_log.Stands table old first (bare plan) (ready (bare plan) (bare_table t)) → t.pending ≡ 0 →
      Rests log old (first + blocks_of (bare plan)) plan t → ReplayLeaves first plan t (page_at old) (page_at new)

-- After an error the first cause of it, where the flash tells its bytes; and a fault of the flash has its cause.
pub record ReplayFails {KNOTS SLOTS : ℕ} (log : RecordLog) (table : Table KNOTS SLOTS) (old : FlashState) (fault : MountFault) (new : FlashState) : Type 0 where
  pub refused : IsTrue old.media.tells → RefusesLog (layout_in table) log old table fault new
  pub cause : MountCausedBy old fault new

-- What it does to the flash: the pages outside the rings and the log stand, where the flash tells its bytes. There are at most four
-- reads for each page of the log in all, and at most one program and one erase for its ring, and two of each for each ring of the table.
pub record ReplayFlash {KNOTS SLOTS : ℕ} (log : RecordLog) (table : Table KNOTS SLOTS) (old new : FlashState) : Type 0 where
  pub goes : Goes old new
  pub outside : IsTrue old.media.tells → StandBeside table log (page_at old) (page_at new)
  pub reads : FewReads (4 * room (log_shape log)) old new
  pub repairs : FewRepairs (1 + 2 * rings_in table) old new
