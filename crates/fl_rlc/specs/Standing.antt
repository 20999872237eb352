-- A record log in memory and on a flash, and the log of the model for which they stand.
use Rattle.std.specs.Prelude.{◌≡◌, ℕ, true, false, Some, [], map}
use Rattle.fl_flash.specs.Flash.{FlashState}
use Rattle.fl_model.specs.Record.{Plan, row_layout}
use Rattle.fl_model.specs.Ring.{Ring, oldest}
use Rattle.fl_model.specs.Row.{stored_row}
use Rattle.fl_model.specs.Table as model
use Rattle.fl_model.specs.Table.{has_rows, log_pages, pending_entries}
use Rattle.fl_page.specs.Writer.{Gathers}
use Rattle.fl_rlc.specs.Memory.{is_mounted, next_in, oldest_in, rows_in, page_in, IsPlanned}
use Rattle.fl_rlc.specs.Pages.{IsLogRing}
use Rattle.fl_rlc.specs.declared.log.RecordLog.{RecordLog}

-- a mounted ring that stands for that of a table's log, and its pages for what they hold
pub record HasRing (log : RecordLog) (f : FlashState) (first : ℕ) (plan : Plan) (table : model.Table) : Type 0 where
  pub planned : IsPlanned log first plan
  pub mounted : is_mounted log ≡ true
  pub ring : Ring
  pub ring_is : table.log ≡ Some ring
  pub pages : IsLogRing plan (log_pages table) ring (page_in log f)
  pub logged_some : has_rows table.log ≡ false → table.logged ≡ []
  -- no page is torn and no block waits for its erase
  pub whole : ring.torn ≡ false
  pub clean : ring.dirty ≡ false
  pub next : next_in log ≡ ring.next
  pub oldest_is : oldest_in log ≡ oldest ring

-- .. and the rows of its next page are those that are pending
pub record Stands (log : RecordLog) (f : FlashState) (first : ℕ) (plan : Plan) (table : model.Table) : Type 0 where
  pub ring : HasRing log f first plan table
  pub rows : Gathers (row_layout plan) (map stored_row (pending_entries table)) (rows_in log)
