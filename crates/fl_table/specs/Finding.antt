-- What a lookup in a table finds, and how many pages it reads.
use Rattle.std.specs.Prelude.{◌≡◌, ℕ, ◌+◌, ◌-◌, ◌<◌, ◌≤◌, nat_le, Bool, true, false, Option, Some, None, IfSome, option_map, unwrap_or, List, IsTrue, length, Result, Ok, Err, slice_get, map, if◌then◌else◌}
use Rattle.fl_find.specs.Index.{knots_in, most_reads, shift_in, window_end}
use Rattle.fl_find.specs.Looking.{IsSound}
use Rattle.fl_find.specs.Pages.{first_key, rows_on, IsBadPage}
use Rattle.fl_find.specs.Rows.{RowsRise, LacksKey}
use Rattle.fl_flash.specs.Buffer.{BufferState}
use Rattle.fl_flash.specs.Flash.{FlashState, page_at}
use Rattle.fl_flash.specs.declared.flash.FlashFault.TheVariants.{PowerLost, Media}
use Rattle.fl_mark.specs.Mark.{state_of_page}
use Rattle.fl_mark.specs.declared.page_state.PageState.TheVariants.{Committed}
use Rattle.fl_model.specs.Record.{Plan, row_layout}
use Rattle.fl_model.specs.Row.{Row, stored_row}
use Rattle.fl_model.specs.Table as model
use Rattle.fl_model.specs.Table.{Entry, pending_entries}
use Rattle.fl_model.specs.Query.{entry_at}
use Rattle.fl_model.specs.Spline.{retained, is_covered, is_pending_key, lookup_reads}
use Rattle.fl_page.specs.Page.{IsGoodPage}
use Rattle.fl_page.specs.declared.fault.BadPage.{BadPage}
use Rattle.fl_page.specs.declared.fault.ReadFault.{ReadFault}
use Rattle.fl_page.specs.declared.fault.ReadFault.TheVariants as fault
use Rattle.fl_radix.specs.Slots as radix
use Rattle.fl_radix.specs.Slots.{knots_in_slot, IsLeastShift}
use Rattle.fl_frame.specs.Causes.{ReadFails}
use Rattle.fl_search.specs.Search.{Ascends, IsPageOf, RoseBy, RoseSome, starts_by}
use Rattle.fl_table.specs.Look.{buffered_rows, layout_in, oldest_in, voids_noted, place_of}
use Rattle.fl_table.specs.Memory.{next_in, pending_in}
use Rattle.fl_table.specs.declared.find.RowAt.{RowAt}
use Rattle.fl_table.specs.declared.find.RowAt.TheVariants as at
use Rattle.fl_table.specs.declared.table.Table.{Table}

-- how many knots stand in the slot of a key
abbrev pub knots_near : {KNOTS SLOTS : ℕ} → Table KNOTS SLOTS → ℕ → ℕ
knots_near t key = knots_in_slot (knots_in t.index) (shift_in t.index) key

-- how many of a table's knots stand in the slot of a key, where the slots are as narrow as they may be
pub record IsInSlot (knots slots : ℕ) (plan : Plan) (table : model.Table) (key count : ℕ) : Type 0 where
  pub shift : ℕ
  pub narrow : IsLeastShift slots (radix.last_key (retained knots plan.error table.points) - radix.first_key (retained knots plan.error table.points)) shift
  pub count_is : count ≡ knots_in_slot (retained knots plan.error table.points) shift key

-- the row at a place: a pending one, or one of the page in the buffer
abbrev pub row_of_place : Plan → model.Table → BufferState → RowAt → Option Row
row_of_place plan table buf (at.Pending i) = slice_get (map stored_row (pending_entries table)) i
row_of_place plan table buf (at.InPage place) = slice_get (rows_on (row_layout plan) buf.bytes) place.row

-- a kept page of a running table stands in the buffer, with its rows; its bytes are those of the flash, where that tells them
pub record HoldsKept {KNOTS SLOTS : ℕ} (t : Table KNOTS SLOTS) (f : FlashState) (number : ℕ) (buf : BufferState) : Type 0 where
  pub kept : (oldest_in t ≤ number) × (number < next_in t)
  pub holds : buf.holds ≡ Some (place_of t number)
  pub committed : state_of_page buf.bytes ≡ Committed
  pub good : IsGoodPage (layout_in t) number buf.bytes
  pub bytes : IsTrue f.media.tells → buf.bytes ≡ page_at f (place_of t number)

-- there is a row at the place: a pending one, or one of the page in the buffer
abbrev pub IsRowAt : {KNOTS SLOTS : ℕ} → Table KNOTS SLOTS → BufferState → RowAt → Type 0
IsRowAt t buf (at.Pending i) = i < pending_in t
IsRowAt t buf (at.InPage place) =
    (length buf.bytes ≤ 4096) × IsGoodPage (layout_in t) place.number buf.bytes × (place.row < length (rows_on (layout_in t) buf.bytes))

-- where a row isn't pending its page stands in the buffer
abbrev pub HoldsIts : {KNOTS SLOTS : ℕ} → Table KNOTS SLOTS → FlashState → BufferState → RowAt → Type 0
HoldsIts t f buf (at.Pending i) = Unit {0}
HoldsIts t f buf (at.InPage place) = HoldsKept t f place.number buf

-- it is the row of the entry with the key
pub record ShowsEntry (plan : Plan) (table : model.Table) (key : ℕ) (buf : BufferState) (place : RowAt) : Type 0 where
  pub entry : Entry
  pub found : entry_at key table.entries ≡ Some entry
  pub row : row_of_place plan table buf place ≡ Some (stored_row entry)

-- the entry with the key, or none where there is none
abbrev pub FindsEntry : Plan → model.Table → ℕ → BufferState → Option RowAt → Type 0
FindsEntry plan table key buf None = entry_at key table.entries ≡ None
FindsEntry plan table key buf (Some place) = ShowsEntry plan table key buf place

-- a row that was found in a page took a read
abbrev pub TookReads : ℕ → ℕ → Option RowAt → Type 0
TookReads before now None = Unit {0}
TookReads before now (Some (at.Pending i)) = Unit {0}
TookReads before now (Some (at.InPage place)) = RoseSome before now

-- a lookup ended; the count of reads rose from one number to another
pub record IsFound (knots : ℕ) (plan : Plan) (table : model.Table) (key before now : ℕ) (buf : BufferState) (place : Option RowAt) : Type 0 where
  pub entry : FindsEntry plan table key buf place
  pub exact : is_pending_key table key ≡ false → is_covered (retained knots plan.error table.points) key ≡ true → RoseBy (lookup_reads knots plan table key) before now
  pub some : TookReads before now place

-- it ends so unless a read fails, and a pending key needs none; no page is bad
abbrev pub Finds : ℕ → Plan → model.Table → ℕ → ℕ → ℕ → BufferState → Result (Option RowAt) ReadFault → Type 0
Finds knots plan table key before now buf (Ok place) = IsFound knots plan table key before now buf place
Finds knots plan table key before now buf (Err (fault.Flash e)) = is_pending_key table key ≡ false
Finds knots plan table key before now buf (Err (fault.BadPage bad)) = ⊥

-- a key that is pending is looked for in memory, which never fails
abbrev pub FindsPending : Plan → model.Table → ℕ → BufferState → Result (Option RowAt) ReadFault → Type 0
FindsPending plan table key buf (Ok place) = FindsEntry plan table key buf place
FindsPending plan table key buf (Err e) = ⊥

-- ---- over any bytes

-- a key is at least the first pending one, so that no page is read for it
abbrev pub is_pending_in : {KNOTS SLOTS : ℕ} → Table KNOTS SLOTS → ℕ → Bool
is_pending_in t key = unwrap_or (option_map (λ row. nat_le row.key key) (slice_get (buffered_rows t) 0)) false

-- its index of pages has a line for the key
abbrev pub is_covered_in : {KNOTS SLOTS : ℕ} → Table KNOTS SLOTS → ℕ → Bool
is_covered_in t key = is_covered (knots_in t.index) key

-- the row at a place, by its bytes: a pending one, or one of the page in the buffer
abbrev pub row_in : {KNOTS SLOTS : ℕ} → Table KNOTS SLOTS → BufferState → RowAt → Option Row
row_in t buf (at.Pending i) = slice_get (buffered_rows t) i
row_in t buf (at.InPage place) = slice_get (rows_on (layout_in t) buf.bytes) place.row

-- it has the key
abbrev pub HasKeyAt : {KNOTS SLOTS : ℕ} → Table KNOTS SLOTS → BufferState → ℕ → RowAt → Type 0
HasKeyAt t buf key place = option_map (λ row. row.key) (row_in t buf place) ≡ Some key

-- the rows of the page with this number, and the key of the first one
abbrev pub rows_at : {KNOTS SLOTS : ℕ} → Table KNOTS SLOTS → FlashState → ℕ → List Row
rows_at t f number = rows_on (layout_in t) (page_at f (place_of t number))

abbrev pub first_at : {KNOTS SLOTS : ℕ} → Table KNOTS SLOTS → FlashState → ℕ → Option ℕ
first_at t f number = first_key (rows_at t f number)

-- the number after the last page that is looked at for a covered key
abbrev pub window_in : {KNOTS SLOTS : ℕ} → Table KNOTS SLOTS → ℕ → ℕ
window_in t key = window_end t.index (next_in t) key

-- the greatest number of reads of a lookup
abbrev pub limit_in : {KNOTS SLOTS : ℕ} → Table KNOTS SLOTS → ℕ → ℕ
limit_in t key = if is_pending_in t key then 0 else most_reads t.index (next_in t - oldest_in t) (voids_noted t) key

-- no page from one number to before another is bad
abbrev pub NoneIsBad : {KNOTS SLOTS : ℕ} → Table KNOTS SLOTS → FlashState → ℕ → ℕ → Type 0
NoneIsBad t f from end = (n : ℕ) → from ≤ n → n < end → IsSound (layout_in t) n (page_at f (place_of t n))

-- the number after the last page that may have a row with at most a key
abbrev pub end_in : {KNOTS SLOTS : ℕ} → Table KNOTS SLOTS → ℕ → ℕ
end_in t key = if is_covered_in t key then window_in t key else next_in t

-- the first key of the page with this number, among pages of these bytes
abbrev pub first_among : {KNOTS SLOTS : ℕ} → Table KNOTS SLOTS → (ℕ → List ℕ) → ℕ → Option ℕ
first_among t page number = first_key (rows_on (layout_in t) (page (place_of t number)))

-- What a search for the page of a key ended with, among pages of these bytes. Where it found one, that is kept, and begins with at most
-- the key. Of a covered key that is the greatest such page of its window, and neither it nor a page behind it in the window is bad. Of
-- another key it is the greatest of all kept pages, which is told where first keys ascend.
pub record IsPageFor {KNOTS SLOTS : ℕ} (t : Table KNOTS SLOTS) (page : ℕ → List ℕ) (key : ℕ) (found : Option ℕ) : Type 0 where
  pub begins : IfSome found (λ number. (oldest_in t ≤ number) × (number < next_in t) × (starts_by (first_among t page) key number ≡ true))
  pub near : is_covered_in t key ≡ true → IsPageOf (first_among t page) (oldest_in t) (window_in t key) key found
  pub sound : is_covered_in t key ≡ true → (n : ℕ) → unwrap_or found (oldest_in t) ≤ n → n < window_in t key → IsSound (layout_in t) n (page (place_of t n))
  pub far : is_covered_in t key ≡ false → Ascends (first_among t page) (oldest_in t) (next_in t) → IsPageOf (first_among t page) (oldest_in t) (next_in t) key found

-- A row that was found is one of this page. Where none was, there is no page, or the page has no row with the key, which is
-- told where its rows rise.
abbrev pub EndsOn : {KNOTS SLOTS : ℕ} → Table KNOTS SLOTS → FlashState → ℕ → Option ℕ → Option RowAt → Type 0
EndsOn t f key None None = Unit {0}
EndsOn t f key (Some page) None = RowsRise (rows_at t f page) → LacksKey (rows_at t f page) key
EndsOn t f key (Some page) (Some (at.InPage place)) = place.number ≡ page
EndsOn t f key (Some page) (Some (at.Pending i)) = ⊥
EndsOn t f key None (Some place) = ⊥

-- The page of a covered key is the greatest one of its window whose first key is at most the key; the lookup ended there, and
-- neither that page nor one behind it in the window is bad.
pub record EndsNear {KNOTS SLOTS : ℕ} (t : Table KNOTS SLOTS) (f : FlashState) (key : ℕ) (found : Option RowAt) (page : Option ℕ) : Type 0 where
  pub ends : EndsOn t f key page found
  pub sound : NoneIsBad t f (unwrap_or page (oldest_in t)) (window_in t key)

-- What a lookup in the kept pages ended with, where the flash tells its bytes. Of a key that isn't covered it is told where
-- first keys ascend, and nothing of bad pages.
pub record AnswersInPages {KNOTS SLOTS : ℕ} (t : Table KNOTS SLOTS) (f : FlashState) (key : ℕ) (found : Option RowAt) : Type 0 where
  pub near : (page : Option ℕ) → IsTrue f.media.tells → is_covered_in t key ≡ true → IsPageOf (first_at t f) (oldest_in t) (window_in t key) key page → EndsNear t f key found page
  pub far : (page : Option ℕ) → IsTrue f.media.tells → is_covered_in t key ≡ false → Ascends (first_at t f) (oldest_in t) (next_in t) → IsPageOf (first_at t f) (oldest_in t) (next_in t) key page →
      EndsOn t f key page found

-- .. and among the pending rows, which is told where they rise
abbrev pub AnswersPending : {KNOTS SLOTS : ℕ} → Table KNOTS SLOTS → ℕ → Option RowAt → Type 0
AnswersPending t key None = RowsRise (buffered_rows t) → LacksKey (buffered_rows t) key
AnswersPending t key (Some (at.Pending i)) = Unit {0}
AnswersPending t key (Some (at.InPage place)) = ⊥

-- a key is looked for among the pending rows or in the kept pages
pub record IsAnswered {KNOTS SLOTS : ℕ} (t : Table KNOTS SLOTS) (f : FlashState) (key : ℕ) (found : Option RowAt) : Type 0 where
  pub pending : is_pending_in t key ≡ true → AnswersPending t key found
  pub kept : is_pending_in t key ≡ false → AnswersInPages t f key found

-- a kept page is committed, and has another number or no count that a page has
pub record HasBadPage {KNOTS SLOTS : ℕ} (t : Table KNOTS SLOTS) (f : FlashState) (bad : BadPage) : Type 0 where
  pub number : ℕ
  pub kept : (oldest_in t ≤ number) × (number < next_in t)
  pub is_bad : IsBadPage (layout_in t) number (page_at f (place_of t number)) bad

-- Of a covered key it is the newest bad one of the pages before the end of its window, and none of these behind it begins with at
-- most the key.
pub record IsBadFor {KNOTS SLOTS : ℕ} (t : Table KNOTS SLOTS) (f : FlashState) (key : ℕ) (bad : BadPage) : Type 0 where
  pub number : ℕ
  pub within : (oldest_in t ≤ number) × (number < window_in t key)
  pub is_bad : IsBadPage (layout_in t) number (page_at f (place_of t number)) bad
  pub later : (n : ℕ) → number < n → n < window_in t key → starts_by (first_at t f) key n ≡ false
  pub sound : NoneIsBad t f (number + 1) (window_in t key)

-- that page is blamed, where the flash tells its bytes
abbrev pub BlamesFor : {KNOTS SLOTS : ℕ} → Table KNOTS SLOTS → FlashState → ℕ → ReadFault → Type 0
BlamesFor t f key (fault.Flash e) = Unit {0}
BlamesFor t f key (fault.BadPage bad) = IsTrue f.media.tells → IsBadFor t f key bad

-- why a lookup fails: the power was off and there are pages; or in a read the medium failed; or a kept page that was
-- read is bad, which is told where the flash tells its bytes
abbrev pub LookupFails : {KNOTS SLOTS : ℕ} → Table KNOTS SLOTS → FlashState → ReadFault → FlashState → Type 0
LookupFails t old (fault.Flash PowerLost) new = ReadFails old PowerLost new × (oldest_in t < next_in t)
LookupFails t old (fault.Flash Media) new = ReadFails old Media new × RoseSome old.work.reads new.work.reads
LookupFails t old (fault.BadPage bad) new = (IsTrue old.media.tells → HasBadPage t old bad) × RoseSome old.work.reads new.work.reads
