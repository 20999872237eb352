-- What a put and a flush of a table with a log leave, whatever the flash holds.
use Rattle.std.specs.Prelude.{◌≡◌, ℕ, ◌+◌, ◌≤◌, Bool, true, false, not, ◌&&◌, ◌||◌, ℤ, Option, Some, None, Result, Ok, Err, OnOk, IfErr, List}
use Rattle.fl_flash.specs.Flash.{FlashState}
use Rattle.fl_flash.specs.declared.flash.FlashFault.TheVariants.{PowerLost}
use Rattle.fl_model.specs.Row.{Row}
use Rattle.fl_parts.specs.Blobs.{most_pages}
use Rattle.fl_table.specs.BlobAt.{data_in}
use Rattle.fl_table.specs.Look.{last_key_in, layout_in}
use Rattle.fl_table.specs.Memory.{pending_in, HasRoom}
use Rattle.fl_table.specs.Paged.{HasFlushed}
use Rattle.fl_table.specs.Stored.{IsEmptied, Stores}
use Rattle.fl_table.specs.declared.faults.FlushFault.{FlushFault}
use Rattle.fl_table.specs.declared.faults.FlushFault.TheVariants as flush
use Rattle.fl_table.specs.declared.faults.PutRefusal.{PutRefusal}
use Rattle.fl_table.specs.declared.faults.PutRefusal.TheVariants as put
use Rattle.fl_rlc.specs.Paged.{HasMadePage, PutLogged}
use Rattle.fl_rlc.specs.Refusal.{NeedsNoOperation, RefusedSame}
use Rattle.fl_rlc.specs.Rows.{AreBegun, HaveLogged}
use Rattle.fl_rlc.specs.Table.{is_running, is_stopped, log_in, rings_in, table_in, IsSamePlan, LiesOn}
use Rattle.fl_rlc.specs.declared.table.LoggedTable.{LoggedTable}

-- A table with a log goes on after a call, unless an operation failed in it.
pub record GoesOn {KNOTS SLOTS : ℕ} (old : LoggedTable KNOTS SLOTS) (breaks : Bool) (new : LoggedTable KNOTS SLOTS) (g : FlashState) : Type 0 where
  -- what no call changes is the same
  pub same : IsSamePlan old new
  -- it lies on the flash that the call left
  pub lies : LiesOn new g
  -- it is stopped where an operation failed, in the call or before
  pub stopped : is_stopped new ≡ (breaks || is_stopped old)
  -- it runs where it ran, and none failed in the call
  pub running : is_running new ≡ (is_running old && not breaks)

-- how many seals a put tries at most: one of each ring, and those of the pages that the blob fills
abbrev pub seals_in_put : {KNOTS SLOTS : ℕ} → LoggedTable KNOTS SLOTS → Option (List ℕ) → ℕ
seals_in_put t blob = rings_in t + most_pages (data_in (table_in t)) blob

-- What a put leaves in memory.
pub record PutsInMemory {KNOTS SLOTS : ℕ} (old : LoggedTable KNOTS SLOTS) (f : FlashState) (key : ℕ) (values : List ℤ) (blob : Option (List ℕ)) (result : Result (Unit {0}) PutRefusal) (new : LoggedTable KNOTS SLOTS) (g : FlashState) : Type 0 where
  -- a refusal but `Flash` leaves table and flash as they were
  pub refused : IfErr result (λ e. RefusedSame old f e new g)
  -- after an Ok the record is the last one, and pending, in the page that was, or after it was sealed
  pub last : OnOk result (last_key_in (table_in new) ≡ Some key)
  pub stores : OnOk result (Stores (table_in old) key values blob (table_in new))
  -- and the log, if there is one, has a page more, and its gathered rows end with this one
  pub logs : OnOk result (HaveLogged (layout_in (table_in old)) (record { key = key; values = values; blob = None }) (log_in old) (log_in new))

-- When a put that isn't refused needs the flash, and what the pages hold then that it seals.
pub record PutsPages {KNOTS SLOTS : ℕ} (old : LoggedTable KNOTS SLOTS) (f : FlashState) (refusal : Option PutRefusal) (row : Row) (blob : Option (List ℕ)) (result : Result (Unit {0}) PutRefusal) (g : FlashState) : Type 0 where
  -- a record that needs no operation leaves the flash alone
  pub quiet : refusal ≡ None → NeedsNoOperation old blob → (result ≡ Ok tt) × (g ≡ f)
  -- another one is answered with lost power where the power is off, and nothing changes then
  pub off : refusal ≡ None → (NeedsNoOperation old blob → ⊥) → f.is_on ≡ false → (result ≡ Err (put.Flash PowerLost)) × (g ≡ f)
  -- after an Ok the pending rows, if their page was full, were programmed over what it held, where it is in no other ring and the flash tells its bytes
  pub sealed : OnOk result ((HasRoom (table_in old) → ⊥) → HasMadePage old blob f g)
  -- and so was the row, behind those that stay, over what the log's next page held, where the flash tells its bytes
  pub log_page : OnOk result (PutLogged old row f g)

-- What a flush leaves in memory.
pub record FlushesInMemory {KNOTS SLOTS : ℕ} (old : LoggedTable KNOTS SLOTS) (result : Result (Unit {0}) FlushFault) (new : LoggedTable KNOTS SLOTS) : Type 0 where
  -- a table that doesn't run is left as it was
  pub refused : result ≡ Err flush.Stopped → (table_in new ≡ table_in old) × (log_in new ≡ log_in old)
  -- the last key stays
  pub last : last_key_in (table_in new) ≡ last_key_in (table_in old)
  -- after an Ok no row is pending, and those that were are a page, which is counted
  pub none : OnOk result (pending_in (table_in new) ≡ 0)
  pub seals : OnOk result (1 ≤ pending_in (table_in old) → IsEmptied (table_in old) (table_in new))
  -- the log's next page begins anew then
  pub begins : OnOk result (1 ≤ pending_in (table_in old) → AreBegun (log_in old) (log_in new))

-- When a flush of a running table needs the flash, and what the page holds then that it seals.
pub record FlushesPage {KNOTS SLOTS : ℕ} (old : LoggedTable KNOTS SLOTS) (f : FlashState) (result : Result (Unit {0}) FlushFault) (new : LoggedTable KNOTS SLOTS) (g : FlashState) : Type 0 where
  -- where no row is pending nothing changes
  pub quiet : is_running old ≡ true → pending_in (table_in old) ≡ 0 → (result ≡ Ok tt) × (new ≡ old) × (g ≡ f)
  -- else it is answered with lost power where the power is off, and the flash stays
  pub off : is_running old ≡ true → 1 ≤ pending_in (table_in old) → f.is_on ≡ false → (result ≡ Err (flush.Flash PowerLost)) × (g ≡ f)
  -- after an Ok the rows that were pending were programmed over what their page held, where it is in no other ring and the flash tells its bytes
  pub sealed : OnOk result (1 ≤ pending_in (table_in old) → HasFlushed (table_in old) f g)
