-- What a lookup in a table leaves: by the model, by the pages as they are, of the flash and the buffer, and in comparisons.
use Rattle.std.specs.Prelude.{◌≡◌, ℕ, ◌+◌, ◌-◌, ◌^◌, ◌≤◌, min, true, false, Option, Result, is_ok, length, IfSome, IfOk, IfErr, IsTrue}
use Rattle.fl_base.specs.Bits.{bits}
use Rattle.fl_find.specs.Finding.{FindsPage}
use Rattle.fl_find.specs.Pages.{IsFresh}
use Rattle.fl_flash.specs.Buffer.{BufferState}
use Rattle.fl_flash.specs.Flash as flashes
use Rattle.fl_flash.specs.Flash.{FlashState}
use Rattle.fl_frame.specs.Contents.{OnlyReads}
use Rattle.fl_model.specs.Record.{Plan}
use Rattle.fl_model.specs.Spline.{is_pending_key, lookup_limit}
use Rattle.fl_model.specs.Table as model
use Rattle.fl_page.specs.declared.fault.ReadFault.{ReadFault}
use Rattle.fl_parts.specs.Calls.{OverTold}
use Rattle.fl_table.specs.Finding.{BlamesFor, Finds, FindsPending, HasKeyAt, HoldsIts, HoldsKept, IsAnswered, IsInSlot, IsPageFor, IsRowAt, LookupFails, is_covered_in, is_pending_in, knots_near}
use Rattle.fl_table.specs.Look.{oldest_in}
use Rattle.fl_table.specs.Memory.{next_in, LiesOn}
use Rattle.fl_table.specs.Standing.{Stands}
use Rattle.fl_table.specs.declared.find.RowAt.{RowAt}
use Rattle.fl_table.specs.declared.table.Table.{Table}

-- What a lookup means by the model.
pub record LooksUp {KNOTS SLOTS : ℕ} (t : Table KNOTS SLOTS) (wanted : ℕ) (old : FlashState) (buf_old : BufferState) (steps_old : ℕ) (result : Result (Option RowAt) ReadFault) (new : FlashState) (buf_new : BufferState) (steps_new : ℕ) : Type 0 where
  -- the record with the key, or that there is none; of a covered key in exactly the reads of the definition
  pub finds : OverTold old (Stands t old) (λ plan table. Finds KNOTS plan table wanted old.work.reads new.work.reads buf_new result)
  -- at most so many reads as the limit says
  pub reads : OverTold old (Stands t old) (λ plan table. new.work.reads ≤ old.work.reads + lookup_limit KNOTS plan table wanted)
  -- a pending key is looked for in memory, whether the flash tells its bytes or not
  pub pending : (first : ℕ) → (plan : Plan) → (table : model.Table) → Stands t old first plan table → is_pending_key table wanted ≡ true →
      (new ≡ old) × (buf_new ≡ buf_old) × FindsPending plan table wanted buf_new result
  -- at most so many comparisons as the knots of the key's slot have bits, and two
  pub slot : (first : ℕ) → (plan : Plan) → (table : model.Table) → (count : ℕ) → Stands t old first plan table → IsInSlot KNOTS SLOTS plan table wanted count →
      steps_new ≤ steps_old + bits count + 2

-- What it answers by the pages, whatever these hold.
pub record AnswersBy {KNOTS SLOTS : ℕ} (t : Table KNOTS SLOTS) (wanted : ℕ) (old : FlashState) (buf_old : BufferState) (result : Result (Option RowAt) ReadFault) (new : FlashState) (buf_new : BufferState) : Type 0 where
  -- the row that is found has the key
  pub key : IfOk result (λ found. IfSome found (HasKeyAt t buf_new wanted))
  -- it is one of the page that the key belongs into, or none is there, which of a key that isn't covered is told where first keys
  -- ascend; and of a covered key no page that has to be read is bad
  pub answers : IfOk result (IsAnswered t old wanted)
  -- for a pending key nothing is read, and no fault comes
  pub unread : is_pending_in t wanted ≡ true → (new ≡ old) × (buf_new ≡ buf_old) × IsTrue (is_ok result)
  -- there is a row at the place that is answered, and where it isn't pending the buffer holds its page
  pub here : IfOk result (λ found. IfSome found (IsRowAt t buf_new))
  pub holds : IfOk result (λ found. IfSome found (HoldsIts t new buf_new))
  -- a failure has its cause, and a bad page that is named for a covered key is the first one that is met: the newest bad one
  -- that is kept before the end of the key's window, and none from it to there begins with at most the key
  pub fails : IfErr result (λ e. LookupFails t old e new)
  pub blames : is_covered_in t wanted ≡ true → IfErr result (BlamesFor t old wanted)

-- What the search for the page of a key means by the model.
pub record LooksForPage {KNOTS SLOTS : ℕ} (t : Table KNOTS SLOTS) (wanted : ℕ) (old : FlashState) (steps_old : ℕ) (result : Result (Option ℕ) ReadFault) (new : FlashState) (steps_new : ℕ) : Type 0 where
  -- the greatest page whose first key is at most the key; of a covered key in exactly the reads of the definition
  pub finds : OverTold old (Stands t old) (λ plan table. FindsPage KNOTS plan table wanted old.work.reads new.work.reads result)
  -- for a key that isn't pending at most so many reads as the limit of a lookup says
  pub reads : OverTold old (Stands t old) (λ plan table. is_pending_key table wanted ≡ false → new.work.reads ≤ old.work.reads + lookup_limit KNOTS plan table wanted)
  -- at most so many comparisons as the knots of the key's slot have bits, and two
  pub slot : (first : ℕ) → (plan : Plan) → (table : model.Table) → (count : ℕ) → Stands t old first plan table → IsInSlot KNOTS SLOTS plan table wanted count →
      steps_new ≤ steps_old + bits count + 2

-- What it answers by the pages, whatever these hold.
pub record AnswersPage {KNOTS SLOTS : ℕ} (t : Table KNOTS SLOTS) (wanted : ℕ) (old : FlashState) (result : Result (Option ℕ) ReadFault) (new : FlashState) (buf_new : BufferState) : Type 0 where
  -- the page that is found begins with at most the key, and of a covered key it is that of the key and no page that has to be read is bad
  pub answers : IsTrue old.media.tells → IfOk result (IsPageFor t (flashes.page_at old) wanted)
  -- the buffer holds it
  pub holds : IfOk result (λ page. IfSome page (λ number. HoldsKept t new number buf_new))
  -- a failure has its cause, and a bad page that is named for a covered key is the first one that is met: the newest bad one
  -- that is kept before the end of the key's window, and none from it to there begins with at most the key
  pub fails : IfErr result (λ e. LookupFails t old e new)
  pub blames : is_covered_in t wanted ≡ true → IfErr result (BlamesFor t old wanted)

-- What a call that looks at kept pages does to its flash and its buffer.
pub record LooksAt {KNOTS SLOTS : ℕ} (t : Table KNOTS SLOTS) (old : FlashState) (buf_old : BufferState) (new : FlashState) (buf_new : BufferState) : Type 0 where
  -- pages are read, and nothing else is done
  pub counts : OnlyReads old new
  -- at most as many as are kept, and one
  pub most : new.work.reads ≤ old.work.reads + (next_in t - oldest_in t) + 1
  -- the table still lies on the flash
  pub lies : LiesOn t new
  -- the buffer is as long as before, and a page that it holds is that of the flash, if it was so before
  pub room : length buf_new.bytes ≡ length buf_old.bytes
  pub fresh : IsFresh old buf_old → IsFresh new buf_new

-- How many knots a lookup compares with a key: the count goes up, and by at most as many as the knots near the key have bits, and two.
pub record ComparesFor {KNOTS SLOTS : ℕ} (t : Table KNOTS SLOTS) (wanted steps_old steps_new : ℕ) : Type 0 where
  pub later : min steps_old (2 ^ 64 - 1) ≤ steps_new
  pub comparisons : steps_new ≤ steps_old + bits (knots_near t wanted) + 2
