-- What a mount reads in the kept pages, over any bytes.
use Rattle.std.specs.Prelude.{◌≡◌, ◌⊎◌, ℕ, ◌+◌, ◌-◌, ◌≤◌, Bool, true, nat_lt, Option, Some, None, unwrap_or, List, [], ◌∷◌, length, map, if◌then◌else◌}
use Rattle.fl_find.specs.Pages.{first_key, rows_on}
use Rattle.fl_flash.specs.Flash.{FlashState, page_at}
use Rattle.fl_mark.specs.Mark.{state_of_page}
use Rattle.fl_mark.specs.declared.page_state.PageState.{PageState}
use Rattle.fl_mark.specs.declared.page_state.PageState.TheVariants.{Blank, Torn, Committed, Void}
use Rattle.fl_index.specs.declared.index.BitmapIndex.{BitmapIndex}
use Rattle.fl_index.specs.declared.page.Full.{Full}
use Rattle.fl_index.specs.Memory.{first_waiting, waiting_in, per_page}
use Rattle.fl_index.specs.Page.{full_view}
use Rattle.fl_index.specs.Standing.{Waits}
use Rattle.fl_model.specs.Layout.{IndexEntry}
use Rattle.fl_model.specs.Limits.{numbers_from}
use Rattle.fl_model.specs.Record.{RowLayout}
use Rattle.fl_model.specs.Row.{Row}
use Rattle.fl_model.specs.BlobEnds.{blobs_end}
use Rattle.fl_page.specs.Page.{IsGoodPage, bad_page, rows_in}
use Rattle.fl_page.specs.Header.{page_bitmap}
use Rattle.fl_ring.specs.Place.{shape_of}
use Rattle.fl_ring.specs.Ring.{place}
use Rattle.fl_ring.specs.declared.ring.Ring.{Ring}
use Rattle.fl_parts.specs.Bitmaps.{AreWaiting}
use Rattle.fl_parts.specs.BlobEnds.{least_of}
use Rattle.fl_parts.specs.declared.mount_fault.MountFault.{MountFault}
use Rattle.fl_parts.specs.declared.mount_fault.MountFault.TheVariants.{BadPage, BadKeys}

-- a key that may follow the last one
abbrev pub rises : Option ℕ → ℕ → Bool
rises None key = true
rises (Some last) key = nat_lt last key

-- the last key after these rows
abbrev pub last_in : Option ℕ → List Row → Option ℕ
last_in last [] = last
last_in last (row ∷ rows) = last_in (Some row.key) rows

-- the first key of these rows that isn't above the one before it
abbrev pub keys_fault : ℕ → Option ℕ → List Row → Option MountFault
keys_fault number last [] = None
keys_fault number last (row ∷ rows) =
    if rises last row.key then keys_fault number (Some row.key) rows else Some (BadKeys number (unwrap_or last 0) row.key)

-- a page that may stand at this number, after this last key
pub record IsRead (layout : RowLayout) (number : ℕ) (page : List ℕ) (last : Option ℕ) : Type 0 where
  pub good : state_of_page page ≡ Committed → IsGoodPage layout number page
  pub keys : keys_fault number last (rows_on layout page) ≡ None

-- why another may not: it is committed, and has another number, no count that a page has, or keys that don't rise
pub record IsRefused (layout : RowLayout) (number : ℕ) (page : List ℕ) (last : Option ℕ) (fault : MountFault) : Type 0 where
  pub committed : state_of_page page ≡ Committed
  pub why : ((IsGoodPage layout number page → ⊥) × (fault ≡ BadPage (bad_page number page)))
      ⊎ (IsGoodPage layout number page × (keys_fault number last (rows_in layout page) ≡ Some fault))

-- the bytes of a page of a ring, by its number
abbrev pub pages_of : Ring → FlashState → ℕ → List ℕ
pages_of ring f number = page_at f (place (shape_of ring) number)

-- the bitmap of a page by its state: one that isn't committed has none
abbrev pub bitmap_where : PageState → ℕ → ℕ
bitmap_where Committed bitmap = bitmap
bitmap_where Blank bitmap = 0
bitmap_where Torn bitmap = 0
bitmap_where Void bitmap = 0

abbrev pub bitmap_on : List ℕ → ℕ
bitmap_on page = bitmap_where (state_of_page page) (page_bitmap page)

-- no entry waits, and those of the pages from one of these on are to wait, which have room
abbrev pub WaitFor : Option BitmapIndex → ℕ → ℕ → Type 0
WaitFor None oldest next = Unit {0}
WaitFor (Some index) oldest next =
    (waiting_in index ≡ 0) × (oldest ≤ first_waiting index) × (first_waiting index ≤ next) × (next ≤ first_waiting index + per_page index)

-- what a full entry tells of a data page beside its bitmap, by the page's bytes; it is all zero where the page isn't committed
abbrev pub full_on : RowLayout → List ℕ → Full
full_on layout page =
    let rows = rows_on layout page in
    record { first_key = unwrap_or (first_key rows) 0; count = length rows; blob_end = least_of (blobs_end 0 rows) }

-- the entry of a data page, by its bytes, and those of so many pages from one on
abbrev pub entry_on : RowLayout → List ℕ → IndexEntry
entry_on layout page = record { bitmap = bitmap_on page; full = full_view (full_on layout page) }

abbrev pub entries_on : RowLayout → (ℕ → List ℕ) → ℕ → ℕ → List IndexEntry
entries_on layout page first count = map (λ number. entry_on layout (page number)) (numbers_from first count)

-- the entries of the pages before a number wait then
abbrev pub GatherUpTo : RowLayout → Option BitmapIndex → (ℕ → List ℕ) → ℕ → Option BitmapIndex → Type 0
GatherUpTo layout None page next new = new ≡ None
GatherUpTo layout (Some old) page next None = ⊥
GatherUpTo layout (Some old) page next (Some new) =
    Waits old (first_waiting old) [] → Waits new (first_waiting old) (entries_on layout page (first_waiting old) (next - first_waiting old))

-- those of the pages from a number on wait then
abbrev pub WaitFrom : RowLayout → (ℕ → List ℕ) → ℕ → ℕ → Option BitmapIndex → Type 0
WaitFrom layout page first next new = AreWaiting new first (entries_on layout page first (next - first))

-- .. as many as there are from the first that waits on
abbrev pub AreGathered : Option BitmapIndex → ℕ → Option BitmapIndex → Type 0
AreGathered None next new = new ≡ None
AreGathered (Some old) next None = ⊥
AreGathered (Some old) next (Some new) = (first_waiting new ≡ first_waiting old) × (waiting_in new ≡ next - first_waiting old)
