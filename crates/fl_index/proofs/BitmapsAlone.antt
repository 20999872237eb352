-- What a lookup of an entry tells, told of its bitmap alone.
use Rattle.std.proofs.Common.{◌≡◌, ℕ, ◌-◌, Bool, true, false, cond, Option, Some, None, IfSome, Result, Ok, Err, List, refl, ◌∙◌, ap}
use Rattle.fl_flash.specs.Buffer.{BufferState}
use Rattle.fl_flash.specs.Flash.{FlashState}
use Rattle.fl_model.specs.Record.{Plan}
use Rattle.fl_model.specs.Table.{Table}
use Rattle.fl_page.specs.declared.fault.ReadFault.{ReadFault}
use Rattle.fl_page.specs.declared.fault.ReadFault.TheVariants.{Flash, BadPage}
use Rattle.fl_index.specs.declared.index.BitmapIndex.{BitmapIndex}
use Rattle.fl_index.specs.declared.page.Found.{Found}
use Rattle.fl_index.specs.Looking.{entire, bitmap_alone, IsFound, IfRead, ByMemory, ShowsEntry, ShowsBitmap, bitmaps_of}
use Rattle.fl_index.specs.Memory.{found_waiting, first_waiting, is_waiting}
use Rattle.fl_index.proofs.LookupsOfTable.{told-some}

pub memory-alone : (t : BitmapIndex) (number : ℕ) (f : FlashState) (before : BufferState) (r : Result (Option Found) ReadFault) (now : FlashState) (after : BufferState) →
    ByMemory entire t number f before r now after → ByMemory bitmap_alone t number f before (bitmaps_of r) now after
memory-alone t number f before r now after m = record {
  answer = ap bitmaps_of m.answer ∙ by_waiting (is_waiting t number) (found_waiting t (number - first_waiting t));
  flash = m.flash;
  buffer = m.buffer;
}
  where
    by_waiting : (b : Bool) (found : Found) → ◌≡◌ {A = Result (Option ℕ) ReadFault} (bitmaps_of (Ok (cond b (Some (entire found)) None))) (Ok (cond b (Some (bitmap_alone found)) None))
    by_waiting true found = refl
    by_waiting false found = refl

pub found-alone : (t : BitmapIndex) (number : ℕ) (bytes : List ℕ) (r : Result (Option Found) ReadFault) (looked : Option ℕ) →
    IfSome looked (λ listing. IsFound entire t listing number bytes r) → IfSome looked (λ listing. IsFound bitmap_alone t listing number bytes (bitmaps_of r))
found-alone t number bytes r None h = h
found-alone t number bytes r (Some listing) h = by_result r h
  where
    by_result : (r : Result (Option Found) ReadFault) → IsFound entire t listing number bytes r → IsFound bitmap_alone t listing number bytes (bitmaps_of r)
    by_result (Ok None) h = h
    by_result (Ok (Some found)) h = (h.0, h.1, ap bitmap_alone h.2)
    by_result (Err (BadPage bad)) h = h
    by_result (Err (Flash fault)) h = h

pub read-alone : (r : Result (Option Found) ReadFault) (P : Type 0) → IfRead r P → IfRead (bitmaps_of r) P
read-alone (Ok found) P h = h
read-alone (Err (BadPage bad)) P h = h
read-alone (Err (Flash fault)) P h = h

-- the bitmap of an entry that is shown
pub shows-alone : (plan : Plan) (table : Table) (number : ℕ) (result : Result (Option Found) ReadFault) → ShowsEntry plan table number result → ShowsBitmap plan table number (bitmaps_of result)
shows-alone plan table number (Ok None) h = (h.0, λ n rows e c some. tt)
shows-alone plan table number (Ok (Some found)) h = (h.0, λ n rows e c some. (h.1 n rows e c (told-some plan rows some)).bitmap)
shows-alone plan table number (Err (Flash fault)) h = tt
shows-alone plan table number (Err (BadPage bad)) h = absurd h
