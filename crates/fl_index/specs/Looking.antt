-- A lookup of a data page's entry, over any bytes and for a table of the model.
use Rattle.std.specs.Prelude.{◌≡◌, ◌⊎◌, ℕ, ◌+◌, ◌-◌, ◌<◌, ◌≤◌, Bool, true, false, ◌&&◌, nat_le, nat_lt, ◌==◌, Option, Some, None, IfSome, is_some, unwrap_or, Result, Ok, Err, List, count_by, slice_get, IsTrue, if◌then◌else◌}
use Rattle.std.specs.List.{range_with_len, list_any}
use Rattle.fl_flash.specs.Buffer.{BufferState}
use Rattle.fl_flash.specs.Flash.{FlashState, page_at}
use Rattle.fl_flash.specs.declared.flash.FlashFault.{FlashFault}
use Rattle.fl_mark.specs.Mark.{state_of_page}
use Rattle.fl_mark.specs.declared.page_state.PageState.TheVariants.{Committed}
use Rattle.fl_model.specs.Image.{rows_at}
use Rattle.fl_model.specs.Agrees.{is_told}
use Rattle.fl_model.specs.Layout.{bitmap_of, full_of}
use Rattle.fl_model.specs.Limits.{is_indexed}
use Rattle.fl_model.specs.Record.{Plan}
use Rattle.fl_model.specs.Ring as rings
use Rattle.fl_model.specs.Table.{Table, Entry}
use Rattle.fl_page.specs.declared.fault.BadPage.{BadPage as Refusal}
use Rattle.fl_page.specs.declared.fault.ReadFault.{ReadFault}
use Rattle.fl_page.specs.declared.fault.ReadFault.TheVariants.{Flash, BadPage}
use Rattle.fl_index.specs.declared.index.BitmapIndex.{BitmapIndex}
use Rattle.fl_index.specs.Memory.{oldest_in, next_in, place_in, per_page, form_in, first_in, lists, listing_in, is_waiting, found_waiting, first_waiting}
use Rattle.fl_index.specs.Page.{page_number, page_entries, found_at, fields_of, IsGoodPage}
use Rattle.fl_index.specs.declared.page.Found.{Found}

-- a buffer holds the kept index page with this number
pub record IsHeld (index : BitmapIndex) (number : ℕ) (buf : BufferState) : Type 0 where
  pub kept : (oldest_in index ≤ number) × (number < next_in index)
  pub place : buf.holds ≡ Some (place_in index number)
  pub number_is : page_number buf.bytes ≡ number

-- a kept index page that a buffer holds has the bytes that stand on the flash, as after a read since the last mount
abbrev pub IsFresh : BitmapIndex → FlashState → BufferState → Type 0
IsFresh index f buf = (number : ℕ) → IsHeld index number buf → buf.bytes ≡ page_at f (place_in index number)

-- the place of a data page among those that a kept index page lists
abbrev pub entry_of : BitmapIndex → ℕ → ℕ → ℕ
entry_of index listing number = number - unwrap_or (first_in index listing) 0

-- a kept index page lists a data page, and the place of its bitmap there is this one
abbrev pub HasEntry : BitmapIndex → ℕ → ℕ → ℕ → Type 0
HasEntry index number listing entry =
    (lists (per_page index) number (first_in index listing) ≡ true) × (entry ≡ entry_of index listing number) × (entry < per_page index)

abbrev pub bad_page : ℕ → List ℕ → Refusal
bad_page number page = record { wanted = number; found = page_number page; count = page_entries page }

-- what is asked for of an entry: all of it, or its bitmap alone
abbrev pub entire : Found → Found
entire found = found

abbrev pub bitmap_alone : Found → ℕ
bitmap_alone found = found.bitmap

-- what the bytes of the index page that lists a data page say of its entry, as far as it is asked for: a page that isn't
-- committed lists none, and one that is committed has to have its number and its count
abbrev pub IsFound : {X : Type 0} → (Found → X) → BitmapIndex → ℕ → ℕ → List ℕ → Result (Option X) ReadFault → Type 0
IsFound asked index listing number page (Ok None) = state_of_page page ≡ Committed → ⊥
IsFound asked index listing number page (Ok (Some answer)) =
    (state_of_page page ≡ Committed) × IsGoodPage (per_page index) listing page × (answer ≡ asked (found_at (form_in index) page (entry_of index listing number)))
IsFound asked index listing number page (Err (BadPage bad)) =
    (state_of_page page ≡ Committed) × (IsGoodPage (per_page index) listing page → ⊥) × (bad ≡ bad_page listing page)
IsFound asked index listing number page (Err (Flash fault)) = Unit {0}

-- what holds where no read failed, and why a read failed
abbrev pub IfRead : {X : Type 0} → Result X ReadFault → Type 0 → Type 0
IfRead (Ok answer) P = P
IfRead (Err (BadPage bad)) P = P
IfRead (Err (Flash fault)) P = Unit {0}

abbrev pub IfUnread : (FlashFault → Type 0) → ReadFault → Type 0
IfUnread P (Flash fault) = P fault
IfUnread P (BadPage bad) = Unit {0}

-- there is a page, and its number is this one
abbrev pub is_page : ℕ → Option ℕ → Bool
is_page number None = false
is_page number (Some page) = page == number

-- a buffer holds the place of the kept index page whose number stands in its bytes
abbrev pub is_kept : BitmapIndex → BufferState → Bool
is_kept index buf =
    nat_le (oldest_in index) (page_number buf.bytes) && nat_lt (page_number buf.bytes) (next_in index) && is_page (place_in index (page_number buf.bytes)) buf.holds

-- .. and it lists a data page
abbrev pub held_lists : BitmapIndex → ℕ → BufferState → Bool
held_lists index number buf = is_kept index buf && lists (per_page index) number (first_in index (page_number buf.bytes))

-- the kept index page that lists a data page: that in the buffer, where it does, or else the first one
abbrev pub listing_by : BitmapIndex → ℕ → BufferState → Option ℕ
listing_by index number buf = if held_lists index number buf then Some (page_number buf.bytes) else listing_in index number

-- the index page to be looked at, where there is one: the bitmap doesn't wait, and a kept index page lists the data page
abbrev pub looked_at : BitmapIndex → ℕ → BufferState → Option ℕ
looked_at index number buf = if is_waiting index number then None else listing_by index number buf

-- Nothing was read, and this was answered: what is asked for of the entry where it waits.
pub record ByMemory {X : Type 0} (asked : Found → X) (index : BitmapIndex) (number : ℕ) (old : FlashState) (before : BufferState) (result : Result (Option X) ReadFault) (new : FlashState) (after : BufferState) : Type 0 where
  pub answer : result ≡ Ok (if is_waiting index number then Some (asked (found_waiting index (number - first_waiting index))) else None)
  pub flash : new ≡ old
  pub buffer : after ≡ before

-- what an entry has to tell of a page with these rows: its bitmap, and in a full one the rest
pub record TellsRows (plan : Plan) (rows : List Entry) (found : Found) : Type 0 where
  pub bitmap : found.bitmap ≡ bitmap_of plan rows
  pub full : found.full ≡ (if plan.full_index then Some (fields_of (full_of rows)) else None)

-- For a table of the model: None exactly where the data page isn't indexed, and else the entry of a kept page, where it has
-- rows or entries are full. No page is bad.
abbrev pub ShowsEntry : Plan → Table → ℕ → Result (Option Found) ReadFault → Type 0
ShowsEntry plan table number (Ok found) =
    (is_some found ≡ is_indexed plan table number)
    × ((n rows : ℕ) → number ≡ rings.oldest table.rows + n → slice_get table.rows.counts n ≡ Some rows → IsTrue (is_told plan rows) →
    IfSome found (TellsRows plan (rows_at table n rows)))
ShowsEntry plan table number (Err (Flash fault)) = Unit {0}
ShowsEntry plan table number (Err (BadPage bad)) = ⊥

-- .. the bitmap alone
abbrev pub ShowsBitmap : Plan → Table → ℕ → Result (Option ℕ) ReadFault → Type 0
ShowsBitmap plan table number (Ok found) =
    (is_some found ≡ is_indexed plan table number)
    × ((n rows : ℕ) → number ≡ rings.oldest table.rows + n → slice_get table.rows.counts n ≡ Some rows → 0 < rows →
    IfSome found (λ bitmap. bitmap ≡ bitmap_of plan (rows_at table n rows)))
ShowsBitmap plan table number (Err (Flash fault)) = Unit {0}
ShowsBitmap plan table number (Err (BadPage bad)) = ⊥

-- the bitmaps of what was found
abbrev pub bitmap_found : Option Found → Option ℕ
bitmap_found None = None
bitmap_found (Some found) = Some found.bitmap

abbrev pub bitmaps_of : Result (Option Found) ReadFault → Result (Option ℕ) ReadFault
bitmaps_of (Ok found) = Ok (bitmap_found found)
bitmaps_of (Err fault) = Err fault

-- the data pages that an index page lists end above a number
abbrev pub ends_above : ℕ → ℕ → Option ℕ → Bool
ends_above per_page number None = false
ends_above per_page number (Some first) = nat_lt number (first + per_page)

-- of the kept index pages from one on those that end above a number
abbrev pub unread : BitmapIndex → ℕ → ℕ → ℕ
unread index number from = count_by (λ n. ends_above (per_page index) number (first_in index n)) (range_with_len from (next_in index - from))

-- the buffer holds a kept index page, and each kept index page before that ends at or below a number
pub record HoldsLast (index : BitmapIndex) (number held : ℕ) (buf : BufferState) : Type 0 where
  pub is_held : IsHeld index held buf
  pub before : (k : ℕ) → oldest_in index ≤ k → k < held → ends_above (per_page index) number (first_in index k) ≡ false

-- a scan has come to a number: the buffer holds no page, or such a one, and index pages from `from` on may still be read
abbrev pub IsScanning : BitmapIndex → ℕ → ℕ → BufferState → Type 0
IsScanning index number from buf =
    ((buf.holds ≡ None) × (from ≡ oldest_in index)) ⊎ ((held : ℕ) × (from ≡ held + 1) × HoldsLast index number held buf)

-- the scan goes on, and what was read isn't read again
pub record ScansOn (index : BitmapIndex) (number from : ℕ) (old new : FlashState) (after : BufferState) : Type 0 where
  pub next : ℕ
  pub scanning : IsScanning index number next after
  pub once : new.work.reads + unread index number next ≤ old.work.reads + unread index number from
  pub fewer : unread index number next ≤ unread index number from

-- the first index page that may still be read where a buffer holds what was looked at last
abbrev pub after_held : ℕ → ℕ → Option ℕ → ℕ
after_held oldest number None = oldest
after_held oldest number (Some page) = number + 1

abbrev pub next_to_read : BitmapIndex → BufferState → ℕ
next_to_read index buf = after_held (oldest_in index) (page_number buf.bytes) buf.holds

-- the first index page that lists a data page whose bitmap doesn't wait
abbrev pub listing_of : BitmapIndex → ℕ → Option ℕ
listing_of index number = if is_waiting index number then None else listing_in index number

-- .. is this one
abbrev pub is_looked_at : BitmapIndex → ℕ → ℕ → Bool
is_looked_at index listing number = is_page listing (listing_of index number)

-- of the kept index pages from one on those to be looked at for some of these data pages
abbrev pub due : BitmapIndex → List ℕ → ℕ → ℕ
due index numbers from = count_by (λ n. list_any (is_looked_at index n) numbers) (range_with_len from (next_in index - from))

-- a kept index page that a buffer holds is good, or not committed
abbrev pub HoldsGood : BitmapIndex → BufferState → Type 0
HoldsGood index buf = (number : ℕ) → IsHeld index number buf → state_of_page buf.bytes ≡ Committed → IsGoodPage (per_page index) number buf.bytes

-- a kept index page that is committed on a flash, and isn't good
pub record IsBadPage (index : BitmapIndex) (f : FlashState) (bad : Refusal) : Type 0 where
  pub from : oldest_in index ≤ bad.wanted
  pub before : bad.wanted < next_in index
  pub committed : state_of_page (page_at f (place_in index bad.wanted)) ≡ Committed
  pub not_good : IsGoodPage (per_page index) bad.wanted (page_at f (place_in index bad.wanted)) → ⊥
  pub told : bad ≡ bad_page bad.wanted (page_at f (place_in index bad.wanted))

-- what a bad page has to be
abbrev pub IfBad : (Refusal → Type 0) → ReadFault → Type 0
IfBad P (Flash fault) = Unit {0}
IfBad P (BadPage bad) = P bad
