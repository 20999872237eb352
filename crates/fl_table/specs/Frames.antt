-- What the calls of a table that change it share, and what each leaves, whatever the flash holds.
use Rattle.std.specs.Prelude.{◌≡◌, ℕ, ◌+◌, ◌≤◌, Bool, true, false, not, ◌&&◌, ◌||◌, ℤ, Option, Some, None, Result, Ok, Err, OnOk, OnErr, IfErr, List}
use Rattle.fl_flash.specs.Flash.{FlashState}
use Rattle.fl_flash.specs.declared.flash.FlashFault.TheVariants.{PowerLost}
use Rattle.fl_parts.specs.Blobs.{most_pages, pages_for}
use Rattle.fl_table.specs.Causes.{RefusedSame}
use Rattle.fl_table.specs.Look.{last_key_in}
use Rattle.fl_table.specs.Memory.{is_running, is_stopped, pending_in, HasRoom, IsSamePlan, LiesOn}
use Rattle.fl_table.specs.Mounting.{rings_in}
use Rattle.fl_table.specs.Paged.{HasFlushed, HasMadePage}
use Rattle.fl_table.specs.Stored.{IsEmptied, Stores}
use Rattle.fl_table.specs.declared.faults.FlushFault.{FlushFault}
use Rattle.fl_table.specs.declared.faults.FlushFault.TheVariants as flush
use Rattle.fl_table.specs.declared.faults.PutRefusal.{PutRefusal}
use Rattle.fl_table.specs.declared.faults.PutRefusal.TheVariants as put
use Rattle.fl_table.specs.declared.table.Table.{Table}

-- A table goes on after a call, unless an operation failed in it.
pub record GoesOn {KNOTS SLOTS : ℕ} (old : Table KNOTS SLOTS) (breaks : Bool) (new : Table KNOTS SLOTS) (g : FlashState) : Type 0 where
  -- what no call changes is the same
  pub same : IsSamePlan old new
  -- it lies on the flash that the call left
  pub lies : LiesOn new g
  -- it is stopped where an operation failed, in the call or before
  pub stopped : is_stopped new ≡ (breaks || is_stopped old)
  -- it runs where it ran, and none failed in the call
  pub running : is_running new ≡ (is_running old && not breaks)

-- how many seals a put tries at most: one of each ring, and those of the pages that the blob fills
abbrev pub seals_in_put : {KNOTS SLOTS : ℕ} → Table KNOTS SLOTS → Option (List ℕ) → ℕ
seals_in_put t blob = rings_in t + most_pages t.blobs blob

-- What a put leaves in memory.
pub record PutsInMemory {KNOTS SLOTS : ℕ} (old : Table KNOTS SLOTS) (f : FlashState) (key : ℕ) (values : List ℤ) (blob : Option (List ℕ)) (result : Result (Unit {0}) PutRefusal) (new : Table KNOTS SLOTS) (g : FlashState) : Type 0 where
  -- a refusal but `Flash` leaves table and flash as they were
  pub refused : IfErr result (λ e. RefusedSame old f e new g)
  -- after any refusal the last key is the one that was, and as many rows are pending where their page had room for one more
  pub last_stays : OnErr result (last_key_in new ≡ last_key_in old)
  pub pending_stays : OnErr result (HasRoom old → pending_in new ≡ pending_in old)
  -- else the record is the last one, and pending, in the page that was, or after it was sealed
  pub last : OnOk result (last_key_in new ≡ Some key)
  pub stores : OnOk result (Stores old key values blob new)

-- When a put that isn't refused needs the flash, and what the page holds then that it seals.
pub record PutsPage {KNOTS SLOTS : ℕ} (old : Table KNOTS SLOTS) (f : FlashState) (refusal : Option PutRefusal) (blob : Option (List ℕ)) (result : Result (Unit {0}) PutRefusal) (g : FlashState) : Type 0 where
  -- a record that its page has room for, and whose blob fills no page, leaves the flash alone
  pub quiet : refusal ≡ None → HasRoom old → pages_for old.blobs blob ≡ 0 → (result ≡ Ok tt) × (g ≡ f)
  -- another one is answered with lost power where the power is off, and nothing changes then
  pub off : refusal ≡ None → (HasRoom old → pages_for old.blobs blob ≡ 0 → ⊥) → f.is_on ≡ false → (result ≡ Err (put.Flash PowerLost)) × (g ≡ f)
  -- after an Ok the pending rows, if their page was full, were programmed over what it held, where it is in no other ring and the flash tells its bytes
  pub sealed : OnOk result ((HasRoom old → ⊥) → HasMadePage old blob f g)

-- What a flush leaves in memory.
pub record FlushesInMemory {KNOTS SLOTS : ℕ} (old : Table KNOTS SLOTS) (result : Result (Unit {0}) FlushFault) (new : Table KNOTS SLOTS) : Type 0 where
  -- a table that doesn't run is left as it was
  pub refused : result ≡ Err flush.Stopped → new ≡ old
  -- the last key stays
  pub last : last_key_in new ≡ last_key_in old
  -- after a fault as many rows are pending
  pub pending_stays : OnErr result (pending_in new ≡ pending_in old)
  -- else none is, and those that were are a page, which is counted
  pub none : OnOk result (pending_in new ≡ 0)
  pub seals : OnOk result (1 ≤ pending_in old → IsEmptied old new)

-- When a flush of a running table needs the flash, and what the page holds then that it seals.
pub record FlushesPage {KNOTS SLOTS : ℕ} (old : Table KNOTS SLOTS) (f : FlashState) (result : Result (Unit {0}) FlushFault) (new : Table KNOTS SLOTS) (g : FlashState) : Type 0 where
  -- where no row is pending nothing changes
  pub quiet : is_running old ≡ true → pending_in old ≡ 0 → (result ≡ Ok tt) × (new ≡ old) × (g ≡ f)
  -- else it is answered with lost power where the power is off, and the flash stays
  pub off : is_running old ≡ true → 1 ≤ pending_in old → f.is_on ≡ false → (result ≡ Err (flush.Flash PowerLost)) × (g ≡ f)
  -- after an Ok the rows that were pending were programmed over what their page held, where it is in no other ring and the flash tells its bytes
  pub sealed : OnOk result (1 ≤ pending_in old → HasFlushed old f g)
