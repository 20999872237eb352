-- What is known of a data page before it is read, as far as its index entry tells, and what index pages are read for it.
use Rattle.std.specs.Prelude.{◌≡◌, ◌⊎◌, ℕ, ◌+◌, ◌-◌, ◌^◌, ◌<◌, ◌≤◌, Bool, true, false, not, ◌&&◌, ◌||◌, nat_lt, Option, Some, None, Result, OnOk, List, ◌∷◌, bit_and, if◌then◌else◌, ◌==◌, Ok, Err}
use Rattle.std.specs.List.{AllByRecursion}
use Rattle.fl_base.specs.declared.types.Span.{Span}
use Rattle.fl_bitmap.specs.Bucket.{mask_in}
use Rattle.fl_bitmap.specs.declared.buckets.Buckets.{Buckets}
use Rattle.fl_flash.specs.Buffer.{BufferState}
use Rattle.fl_flash.specs.Flash.{FlashState}
use Rattle.fl_index.specs.Looking as looking
use Rattle.fl_index.specs.Looking.{IsFresh, IsScanning, HoldsGood, entry_of, looked_at, next_to_read, unread, due}
use Rattle.fl_index.specs.Memory.{first_in, first_waiting, form_in, found_waiting, is_waiting, listing_in, lists, next_in, oldest_in, per_page, place_in}
use Rattle.fl_index.specs.Page.{IsGoodPage, found_at}
use Rattle.fl_index.specs.declared.index.BitmapIndex.{BitmapIndex}
use Rattle.fl_index.specs.declared.page.Found.{Found}
use Rattle.fl_index.specs.declared.page.Full.{Full}
use Rattle.fl_mark.specs.Mark.{state_of_page}
use Rattle.fl_mark.specs.declared.page_state.PageState.TheVariants.{Committed}
use Rattle.fl_model.specs.Layout.{bitmap_of}
use Rattle.fl_model.specs.Limits.{asks_values, is_indexed, mask_of}
use Rattle.fl_model.specs.Query.{is_up_to}
use Rattle.fl_model.specs.Record.{Plan}
use Rattle.fl_model.specs.Table.{Table, Entry, first_key}
use Rattle.fl_page.specs.declared.fault.BadPage.{BadPage as Refusal}
use Rattle.fl_page.specs.declared.fault.ReadFault.{ReadFault}
use Rattle.fl_page.specs.declared.fault.ReadFault.TheVariants.{Flash, BadPage}
use Rattle.fl_parts.specs.declared.ahead.Ahead.{Ahead}
use Rattle.fl_parts.specs.declared.ahead.Ahead.TheVariants.{Wanted, Missed, Beyond}

-- a kept index page that a buffer holds has the bytes that stand on the flash
abbrev pub AreFresh : Option BitmapIndex → FlashState → BufferState → Type 0
AreFresh None f buf = Unit {0}
AreFresh (Some index) f buf = IsFresh index f buf

-- .. and is good, or not committed
abbrev pub HoldGood : Option BitmapIndex → BufferState → Type 0
HoldGood None buf = Unit {0}
HoldGood (Some index) buf = HoldsGood index buf

-- a scan has come to a data page, and the buffer holds no index page or the one that was looked at last
abbrev pub AreScanning : Option BitmapIndex → ℕ → BufferState → Type 0
AreScanning None number buf = Unit {0}
AreScanning (Some index) number buf = IsScanning index number (next_to_read index buf) buf

-- the index pages that a scan of a span may still read from a data page on
abbrev pub unread_of : Option Span → Option BitmapIndex → ℕ → BufferState → ℕ
unread_of None bitmaps number buf = 0
unread_of (Some span) None number buf = 0
unread_of (Some span) (Some index) number buf = unread index number (next_to_read index buf)

-- .. and those that it has to read for some data pages: none where the span has no value
abbrev pub due_of : Option Span → Option BitmapIndex → List ℕ → BufferState → ℕ
due_of None bitmaps numbers buf = 0
due_of (Some span) None numbers buf = 0
due_of (Some span) (Some index) numbers buf = if asks_values (Some span) then due index numbers (next_to_read index buf) else 0

-- a kept index page that is committed on a flash, and isn't good
abbrev pub IsBadIndex : Option BitmapIndex → FlashState → Refusal → Type 0
IsBadIndex None f bad = ⊥
IsBadIndex (Some index) f bad = looking.IsBadPage index f bad

-- a page with these rows has to be read for a span
abbrev pub wants_page : Plan → Table → Option Span → ℕ → List Entry → Bool
wants_page plan table None number entries = true
wants_page plan table (Some span) number entries = not (is_indexed plan table number) || nat_lt 0 (bit_and (bitmap_of plan entries) (mask_of plan span))

-- the index tells that a page with these rows begins above the greatest key wanted, where its entries are full
abbrev pub is_beyond : Plan → Table → Option Span → Option ℕ → ℕ → List Entry → Bool
is_beyond plan table None top number entries = false
is_beyond plan table (Some span) top number entries = plan.full_index && is_indexed plan table number && not (is_up_to top (first_key entries))

-- what is known of a page with these rows
abbrev pub ahead_of : Plan → Table → Option Span → Option ℕ → ℕ → List Entry → Ahead
ahead_of plan table span top number entries =
    if is_beyond plan table span top number entries then Beyond
    else if wants_page plan table span number entries then Wanted else Missed

-- For a table of the model: what is known of a page with these rows. No index page is bad.
abbrev pub ShowsPage : Plan → Table → Option Span → Option ℕ → ℕ → List Entry → Result Ahead ReadFault → Type 0
ShowsPage plan table span top number entries (Ok ahead) = ahead ≡ ahead_of plan table span top number entries
ShowsPage plan table span top number entries (Err (Flash fault)) = Unit {0}
ShowsPage plan table span top number entries (Err (BadPage bad)) = ⊥

-- a full entry tells a first key above the greatest one wanted
abbrev pub begins_above : Option ℕ → Option Full → Bool
begins_above top None = false
begins_above top (Some full) = not (is_up_to top full.first_key)

-- what an entry tells of its page, for the bits of a span
abbrev pub ahead_by : ℕ → Option ℕ → Found → Ahead
ahead_by mask top found =
    if begins_above top found.full then Beyond else if bit_and found.bitmap mask == 0 then Missed else Wanted

-- the buckets of a span as bits; none where a table has no buckets
abbrev pub mask_for : Option Buckets → Span → ℕ
mask_for None span = 0
mask_for (Some buckets) span = mask_in buckets span

-- the entry of a data page stands on this kept index page, which lists it and is committed and good
pub record IsEntryOn (index : BitmapIndex) (page : ℕ → List ℕ) (number listing : ℕ) (found : Found) : Type 0 where
  pub kept : (oldest_in index ≤ listing) × (listing < next_in index)
  pub lists_it : lists (per_page index) number (first_in index listing) ≡ true
  pub committed : state_of_page (page (place_in index listing)) ≡ Committed
  pub good : IsGoodPage (per_page index) listing (page (place_in index listing))
  pub found_is : found ≡ found_at (form_in index) (page (place_in index listing)) (entry_of index listing number)

-- .. or it waits in memory
abbrev pub IsEntryOf : BitmapIndex → (ℕ → List ℕ) → ℕ → Found → Type 0
IsEntryOf index page number found =
    ((is_waiting index number ≡ true) × (found ≡ found_waiting index (number - first_waiting index))) ⊎ ((listing : ℕ) × IsEntryOn index page number listing found)

-- Where values are asked for and there is an index, over pages of these bytes: an entry of a data page tells this of it.
abbrev pub IsToldBy : Option BitmapIndex → Option Buckets → (ℕ → List ℕ) → Option Span → Option ℕ → ℕ → Ahead → Type 0
IsToldBy bitmaps buckets page None top number ahead = ⊥
IsToldBy None buckets page (Some span) top number ahead = ⊥
IsToldBy (Some index) buckets page (Some span) top number ahead = (found : Found) × IsEntryOf index page number found × (ahead ≡ ahead_by (mask_for buckets span) top found)

-- a kept index page lists a data page, and is good or not committed
pub record IsListedBy (index : BitmapIndex) (page : ℕ → List ℕ) (number listing : ℕ) : Type 0 where
  pub kept : (oldest_in index ≤ listing) × (listing < next_in index)
  pub lists_it : lists (per_page index) number (first_in index listing) ≡ true
  pub sound : state_of_page (page (place_in index listing)) ≡ Committed → IsGoodPage (per_page index) listing (page (place_in index listing))

-- Where values are asked for and there is an index, over pages of these bytes: the entry of a data page waits, or no kept index page
-- lists it, or one that does isn't bad.
abbrev pub IsLookedUp : Option BitmapIndex → (ℕ → List ℕ) → Option Span → ℕ → Type 0
IsLookedUp bitmaps page None number = Unit {0}
IsLookedUp None page (Some span) number = Unit {0}
IsLookedUp (Some index) page (Some span) number = (is_waiting index number ≡ true) ⊎ ((listing_in index number ≡ None) ⊎ ((listing : ℕ) × IsListedBy index page number listing))

-- .. and that one is the page that a buffer with these bytes has looked at: the one that it holds, if that lists the data page, or else the
-- first that does.
abbrev pub IsLookedUpBy : Option BitmapIndex → (ℕ → List ℕ) → Option Span → ℕ → BufferState → Type 0
IsLookedUpBy bitmaps page None number buf = Unit {0}
IsLookedUpBy None page (Some span) number buf = Unit {0}
IsLookedUpBy (Some index) page (Some span) number buf =
    (is_waiting index number ≡ true) ⊎ ((listing_in index number ≡ None) ⊎ ((listing : ℕ) × (looked_at index number buf ≡ Some listing) × IsListedBy index page number listing))

-- Over a flash that stands for a table: the scan goes on, what was read isn't read again, and what had to be read was. After a
-- fault too no more is left to be read than before.
pub record LooksOn {X : Type 0} (bitmaps : Option BitmapIndex) (span : Option Span) (number : ℕ) (before : BufferState) (reads : ℕ) (result : Result X ReadFault) (reads_now : ℕ) (after : BufferState) : Type 0 where
  pub scanning : AreScanning bitmaps number after
  pub once : OnOk result (reads_now + unread_of span bitmaps number after ≤ reads + unread_of span bitmaps number before)
  pub most : reads_now ≤ reads + unread_of span bitmaps number before
  pub fewer : unread_of span bitmaps number after ≤ unread_of span bitmaps number before
  pub least : (numbers : List ℕ) → AllByRecursion (λ n. number ≤ n) numbers → reads_now < 2 ^ 64 - 1 →
      OnOk result (reads + due_of span bitmaps (number ∷ numbers) before ≤ reads_now + due_of span bitmaps numbers after)
