-- What the mount of a table with a log found on a flash, over any bytes.
use Rattle.std.specs.Prelude.{◌≡◌, ◌⊎◌, ℕ, ◌+◌, Option, Some, None}
use Rattle.fl_flash.specs.Flash.{FlashState}
use Rattle.fl_model.specs.Record.{RowLayout}
use Rattle.fl_ring.specs.Ring.{room}
use Rattle.fl_table.specs.Look.{layout_in}
use Rattle.fl_table.specs.Mounting as mounting
use Rattle.fl_table.specs.declared.counts.Mounted.{Mounted}
use Rattle.fl_parts.specs.declared.mount_fault.MountFault.{MountFault}
use Rattle.fl_table.specs.declared.table.Table.{Table}
use Rattle.fl_rlc.specs.Finding.{FindsLog, RefusesLog}
use Rattle.fl_rlc.specs.Memory.{log_shape}
use Rattle.fl_rlc.specs.Table.{mounted_in}
use Rattle.fl_rlc.specs.declared.log.RecordLog.{RecordLog}
use Rattle.fl_rlc.specs.declared.table.LoggedTable.{LoggedTable}

-- how many pages its rings have
abbrev pub log_pages : Option RecordLog → ℕ
log_pages None = 0
log_pages (Some l) = room (log_shape l)

abbrev pub pages_in : {KNOTS SLOTS : ℕ} → LoggedTable KNOTS SLOTS → ℕ
pages_in t = mounting.pages_in t.table + log_pages t.log

-- Without a log nothing more is done. With one it was found behind the table and replayed, and what the table holds then is answered.
abbrev pub FindsBehind : {KNOTS SLOTS : ℕ} → RowLayout → Option RecordLog → Table KNOTS SLOTS → FlashState → Mounted → Mounted → Table KNOTS SLOTS → Option RecordLog → FlashState → Type 0
FindsBehind layout None seen between found mounted table last new = (last ≡ None) × (table ≡ seen) × (mounted ≡ found) × (new ≡ between)
FindsBehind layout (Some l) seen between found mounted table None new = ⊥
FindsBehind layout (Some l) seen between found mounted table (Some w) new = FindsLog layout l between seen w table new × (mounted ≡ mounted_in table)

-- the table was found, and then its log
pub record FindsPages {KNOTS SLOTS : ℕ} (t : LoggedTable KNOTS SLOTS) (old : FlashState) (mounted : Mounted) (now : LoggedTable KNOTS SLOTS) (new : FlashState) : Type 0 where
  pub seen : Table KNOTS SLOTS
  pub between : FlashState
  pub found : Mounted
  pub pages : mounting.FindsPages t.table old found seen between
  pub behind : FindsBehind (layout_in t.table) t.log seen between found mounted now.table now.log new

-- the table was found, and its log is refused
pub record RefusesBehind {KNOTS SLOTS : ℕ} (t : LoggedTable KNOTS SLOTS) (old : FlashState) (fault : MountFault) (new : FlashState) : Type 0 where
  pub seen : Table KNOTS SLOTS
  pub between : FlashState
  pub found : Mounted
  pub pages : mounting.FindsPages t.table old found seen between
  pub log : RecordLog
  pub log_is : t.log ≡ Some log
  pub why : RefusesLog (layout_in t.table) log between seen fault new

-- why a mount fails: the table is refused, or its log is
abbrev pub RefusesPages : {KNOTS SLOTS : ℕ} → LoggedTable KNOTS SLOTS → FlashState → MountFault → FlashState → Type 0
RefusesPages t old fault new = mounting.RefusesPages t.table old fault new ⊎ RefusesBehind t old fault new
