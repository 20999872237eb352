-- The entry of a data page that a table looks up in its index, over any bytes and for a table of the model.
use Rattle.std.specs.Prelude.{◌≡◌, ℕ, ◌+◌, ◌^◌, ◌-◌, ◌<◌, ◌≤◌, Option, Some, None, IfSome, is_some, option_map, Result, Ok, Err, IfErr, OnOk, OnErr, List, ◌∷◌, slice_get, IsTrue, if◌then◌else◌, ℤ}
use Rattle.std.specs.List.{AllByRecursion}
use Rattle.fl_flash.specs.Buffer.{BufferState}
use Rattle.fl_flash.specs.Flash.{FlashState, page_at}
use Rattle.fl_flash.specs.Media.{next_count}
use Rattle.fl_index.specs.Looking.{looked_at, due, next_to_read, unread, ByMemory, IfRead, IfUnread, IsFound, IsFresh, IsHeld, IsScanning, ScansOn}
use Rattle.fl_index.specs.Memory.{oldest_in, place_in}
use Rattle.fl_index.specs.Page.{full_view, page_number}
use Rattle.fl_index.specs.declared.index.BitmapIndex.{BitmapIndex}
use Rattle.fl_index.specs.declared.page.Found.{Found}
use Rattle.fl_model.specs.Agrees.{is_told}
use Rattle.fl_model.specs.Image.{rows_at}
use Rattle.fl_model.specs.Layout.{bitmap_of, full_of}
use Rattle.fl_model.specs.Limits.{is_indexed}
use Rattle.fl_model.specs.Record.{Plan}
use Rattle.fl_model.specs.Ring as rings
use Rattle.fl_model.specs.Table.{Table, Entry}
use Rattle.fl_page.specs.declared.fault.ReadFault.{ReadFault}
use Rattle.fl_page.specs.declared.fault.ReadFault.TheVariants.{Flash, BadPage}
use Rattle.fl_bitmap.specs.Bucket.{with_value}
use Rattle.fl_bitmap.specs.declared.buckets.Buckets.{Buckets}

-- ---- over any bytes

-- An entry that waits, and that of a data page that no index page lists, need no look. Any other one is looked up in the one
-- index page that lists it, which isn't read where the buffer holds it.
pub record LooksUp {X : Type 0} (asked : Found → X) (index : BitmapIndex) (number : ℕ) (old : FlashState) (before : BufferState) (result : Result (Option X) ReadFault) (new : FlashState) (after : BufferState) : Type 0 where
  pub memory : looked_at index number before ≡ None → ByMemory asked index number old before result new after
  pub found : IfSome (looked_at index number before) (λ listing. IsFound asked index listing number after.bytes result)
  pub page : IfSome (looked_at index number before) (λ listing. IsTrue old.media.tells → IsFresh index old before → IfRead result (after.bytes ≡ page_at old (place_in index listing)))
  pub holds : IfSome (looked_at index number before) (λ listing. IfRead result (after.holds ≡ Some (place_in index listing)))
  pub held : IfSome (looked_at index number before) (λ listing. IsHeld index listing before → (new ≡ old) × (after ≡ before))
  pub read : IfSome (looked_at index number before) (λ listing. (before.holds ≡ Some (place_in index listing) → page_number before.bytes ≡ listing → ⊥) → IfRead result (new.work.reads ≡ next_count old.work.reads))
  pub unread : IfErr result (IfUnread (λ e. after.holds ≡ None))

-- without an index there is no entry, and nothing is read
abbrev pub LookUp : {X : Type 0} → (Found → X) → Option BitmapIndex → ℕ → FlashState → BufferState → Result (Option X) ReadFault → FlashState → BufferState → Type 0
LookUp asked None number old before result new after = (result ≡ Ok None) × (new ≡ old) × (after ≡ before)
LookUp asked (Some index) number old before result new after = LooksUp asked index number old before result new after

-- ---- over a flash that stands for a table

-- an entry tells of a page with these rows: its bitmap, and a full one the rest
pub record TellsOf (plan : Plan) (rows : List Entry) (found : Found) : Type 0 where
  pub bitmap : found.bitmap ≡ bitmap_of plan rows
  pub full : option_map full_view found.full ≡ (if plan.full_index then Some (full_of rows) else None)

-- None exactly where the data page isn't indexed, and else the entry of a kept page, where it has rows or entries are full. No
-- index page is bad.
abbrev pub ShowsFound : Plan → Table → ℕ → Result (Option Found) ReadFault → Type 0
ShowsFound plan table number (Ok found) =
    (is_some found ≡ is_indexed plan table number)
    × ((n rows : ℕ) → number ≡ rings.oldest table.rows + n → slice_get table.rows.counts n ≡ Some rows → IsTrue (is_told plan rows) →
    IfSome found (TellsOf plan (rows_at table n rows)))
ShowsFound plan table number (Err (Flash fault)) = Unit {0}
ShowsFound plan table number (Err (BadPage bad)) = ⊥

-- A scan that has come to the data page, and may still read the index pages from one on, goes on: what was read isn't read
-- again, and what had to be read was. After a fault it may begin anew.
pub record LooksFrom {X : Type 0} (index : BitmapIndex) (number : ℕ) (old : FlashState) (before : BufferState) (result : Result X ReadFault) (new : FlashState) (after : BufferState) : Type 0 where
  pub scans : (from : ℕ) → IsScanning index number from before → OnOk result (ScansOn index number from old new after)
  pub most : (from : ℕ) → IsScanning index number from before → new.work.reads ≤ old.work.reads + unread index number from
  pub least : (from : ℕ) (numbers : List ℕ) → IsScanning index number from before → AllByRecursion (λ n. number ≤ n) numbers → new.work.reads < 2 ^ 64 - 1 →
      OnOk result (old.work.reads + due index (number ∷ numbers) from ≤ new.work.reads + due index numbers (next_to_read index after))
  pub again : (from : ℕ) → IsScanning index number from before → OnErr result (unread index number (oldest_in index) ≤ unread index number from)

abbrev pub LookFrom : {X : Type 0} → Option BitmapIndex → ℕ → FlashState → BufferState → Result X ReadFault → FlashState → BufferState → Type 0
LookFrom None number old before result new after = Unit {0}
LookFrom (Some index) number old before result new after = LooksFrom index number old before result new after

-- the bitmap with one more value
abbrev pub bitmap_with : Option Buckets → ℕ → ℤ → ℕ
bitmap_with None bitmap value = bitmap
bitmap_with (Some buckets) bitmap value = with_value buckets bitmap value
