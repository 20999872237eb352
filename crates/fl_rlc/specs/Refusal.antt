-- Why a table with a log refuses a record.
use Rattle.std.specs.Prelude.{◌≡◌, ℕ, ℤ, false, Option, Some, None, List, nat_le}
use Rattle.fl_flash.specs.Flash.{FlashState}
use Rattle.fl_model.specs.Table.{spent_from}
use Rattle.fl_table.specs.BlobAt.{data_in}
use Rattle.fl_parts.specs.Blobs.{pages_for}
use Rattle.fl_table.specs.Memory.{HasRoom}
use Rattle.fl_table.specs.Refusal as table
use Rattle.fl_table.specs.Refusal.{or_else, refused_if}
use Rattle.fl_table.specs.declared.faults.PutRefusal.{PutRefusal}
use Rattle.fl_table.specs.declared.faults.PutRefusal.TheVariants.{Spent, Flash}
use Rattle.fl_rlc.specs.Memory.{next_in}
use Rattle.fl_rlc.specs.Table.{is_logged}
use Rattle.fl_rlc.specs.declared.log.RecordLog.{RecordLog}
use Rattle.fl_rlc.specs.declared.table.LoggedTable.{LoggedTable}

-- the log has no page number left
abbrev pub log_refused : Option RecordLog → Option PutRefusal
log_refused None = None
log_refused (Some log) = refused_if (nat_le spent_from (next_in log)) Spent

-- the first refusal that applies: the table's, and then that of its log
abbrev pub put_refusal : {KNOTS SLOTS : ℕ} → LoggedTable KNOTS SLOTS → ℕ → List ℤ → Option ℕ → Option PutRefusal
put_refusal t key values blob = or_else (table.put_refusal t.table key values blob) (log_refused t.log)

-- a put of an accepted record with this blob, or without one, that needs no operation of the flash: its row has room, no page of a
-- blob comes, and there is no log
pub record NeedsNoOperation {KNOTS SLOTS : ℕ} (t : LoggedTable KNOTS SLOTS) (blob : Option (List ℕ)) : Type 0 where
  pub unlogged : is_logged t ≡ false
  pub room : HasRoom t.table
  pub pages : pages_for (data_in t.table) blob ≡ 0

-- a refusal that isn't a fault of the flash leaves the table and the flash as they are
abbrev pub RefusedSame : {KNOTS SLOTS : ℕ} → LoggedTable KNOTS SLOTS → FlashState → PutRefusal → LoggedTable KNOTS SLOTS → FlashState → Type 0
RefusedSame old f (Flash fault) new g = Unit {0}
RefusedSame old f _ new g = (new ≡ old) × (g ≡ f)
