-- What clauses see of an index in memory.
use Rattle.std.specs.Prelude.{◌≡◌, ℕ, zero, suc, ◌+◌, ◌-◌, ◌*◌, ◌/◌, ◌%◌, ◌^◌, ◌<◌, ◌≤◌, Bool, false, ◌&&◌, ◌==◌, nat_lt, nat_le, Option, Some, None, is_some, option_map, unwrap_or, List, length, take, drop, slice_index_or, vec_len, if◌then◌else◌}
use Rattle.std.specs.List.{flat_map}
use Rattle.std.specs.Option.{ForSome}
use Rattle.fl_flash.specs.Flash.{FlashState, pages}
use Rattle.fl_model.specs.Record.{Plan}
use Rattle.fl_model.specs.Layout.{IndexEntry}
use Rattle.fl_ring.specs.Mounting.{shape_at}
use Rattle.fl_ring.specs.Place.{next_of, oldest_of}
use Rattle.fl_ring.specs.Place as place
use Rattle.fl_ring.specs.Ring as rings
use Rattle.fl_ring.specs.Ring.{Shape}
use Rattle.fl_ring.specs.Written.{MaySealIn}
use Rattle.fl_index.specs.declared.index.BitmapIndex.{BitmapIndex}
use Rattle.fl_index.specs.Page.{form_len, bytes_of, bitmap_at, found_at}
use Rattle.fl_index.specs.declared.page.Found.{Found}
use Rattle.fl_index.specs.declared.page.EntryForm.{EntryForm}

-- the last mount succeeded, and no seal failed since
abbrev pub is_running : BitmapIndex → Bool
is_running index = is_some index.ring

-- the form of an entry, and its bytes
abbrev pub form_in : BitmapIndex → EntryForm
form_in index = record { width = index.bits / 8; full = index.full }

abbrev pub len_in : BitmapIndex → ℕ
len_in index = form_len (form_in index)

-- how many entries an index page holds
abbrev pub per_page : BitmapIndex → ℕ
per_page index = (index.geometry.page - 24) / len_in index

-- the number of the next index page, and of the oldest kept one
abbrev pub next_in : BitmapIndex → ℕ
next_in index = unwrap_or (option_map (λ ring. next_of ring) index.ring) 0

abbrev pub oldest_in : BitmapIndex → ℕ
oldest_in index = unwrap_or (option_map (λ ring. oldest_of ring) index.ring) 0

-- .. and the oldest one after the seal of the next page
abbrev pub oldest_after : BitmapIndex → ℕ
oldest_after index = unwrap_or (option_map (λ ring. place.oldest_after ring) index.ring) 0

-- the flash pages that the seal of the next index page changes
abbrev pub MaySeal : BitmapIndex → ℕ → Type 0
MaySeal index = MaySealIn index.ring

-- how many entries wait, the data page of the first of them, and the bitmap of the j-th of them
abbrev pub waiting_in : BitmapIndex → ℕ
waiting_in index = index.waiting

abbrev pub first_waiting : BitmapIndex → ℕ
first_waiting index = index.first

abbrev pub waiting_at : BitmapIndex → ℕ → ℕ
waiting_at index j = bitmap_at (form_in index) index.body.items j

abbrev pub found_waiting : BitmapIndex → ℕ → Found
found_waiting index j = found_at (form_in index) index.body.items j

-- these entries wait, one after another
abbrev pub Gathers : BitmapIndex → List IndexEntry → Type 0
Gathers index entries = take (length entries * len_in index) (drop 16 index.body.items) ≡ flat_map (bytes_of (form_in index)) entries

-- the entry of a data page waits
abbrev pub is_waiting : BitmapIndex → ℕ → Bool
is_waiting index number = nat_le (first_waiting index) number && nat_lt number (first_waiting index + waiting_in index)

-- the first data page that the kept index page with this number lists, as it is remembered; a void page lists none
abbrev pub first_in : BitmapIndex → ℕ → Option ℕ
first_in index number = slice_index_or index.firsts.items (number % vec_len index.firsts) None

-- That of each kept index page is remembered as it was, and of the next page, where it was sealed, that of the entries that waited.
-- Nothing is said of pages that the ring gave up.
abbrev pub FirstsGoOn : BitmapIndex → BitmapIndex → Type 0
FirstsGoOn old new =
    (number : ℕ) → oldest_in new ≤ number → number < next_in new → next_in new ≤ number + vec_len new.firsts →
    first_in new number ≡ (if number == next_in old then Some (first_waiting old) else first_in old number)

-- an index page with this first data page lists a data page
abbrev pub lists : ℕ → ℕ → Option ℕ → Bool
lists per_page number None = false
lists per_page number (Some first) = nat_le first number && nat_lt number (first + per_page)

-- the first of so many index pages from one on that lists a data page
abbrev pub listing_from : ℕ → (ℕ → Option ℕ) → ℕ → ℕ → ℕ → Option ℕ
listing_from per_page first number from zero = None
listing_from per_page first number from (suc n) =
    if lists per_page number (first from) then Some from else listing_from per_page first number (from + 1) n

-- the kept index page that lists a data page
abbrev pub listing_in : BitmapIndex → ℕ → Option ℕ
listing_in index number = listing_from (per_page index) (first_in index) number (oldest_in index) (next_in index - oldest_in index)

-- where the ring of an index stands
abbrev pub ring_shape : BitmapIndex → Shape
ring_shape index = shape_at index.place index.geometry

-- the flash page at which the number of an index page stands
abbrev pub place_in : BitmapIndex → ℕ → ℕ
place_in index number = rings.place (ring_shape index) number

-- the index of a table of this plan, whose blocks begin at `first`
pub record IsPlanned (index : BitmapIndex) (first : ℕ) (plan : Plan) : Type 0 where
  pub geometry : plan.geometry ≡ index.geometry
  pub begins : index.place.first_block ≡ first
  pub blocks : plan.index_blocks ≡ index.place.blocks
  pub bits : plan.bits ≡ index.bits
  pub full : plan.full_index ≡ index.full

-- what no call changes
pub record IsSamePlan (old new : BitmapIndex) : Type 0 where
  pub geometry : new.geometry ≡ old.geometry
  pub place : new.place ≡ old.place
  pub bits : new.bits ≡ old.bits
  pub full : new.full ≡ old.full

-- .. and what no call changes that leaves the ring
pub record IsSameRing (old new : BitmapIndex) : Type 0 where
  pub ring : new.ring ≡ old.ring
  pub firsts : new.firsts ≡ old.firsts

-- a flash on which the index lies
pub record LiesOn (index : BitmapIndex) (f : FlashState) : Type 0 where
  pub geometry : f.geometry ≡ index.geometry
  pub within : index.place.first_block + index.place.blocks ≤ f.blocks
  pub few : pages f < 2 ^ 32
  pub ring : ForSome index.ring (λ r. place.LiesOn r f)
