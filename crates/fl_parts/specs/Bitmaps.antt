-- The index of a table, where it has one: the entries of its sealed pages.
use Rattle.std.specs.Prelude.{◌≡◌, ◌⊎◌, ℕ, ◌+◌, ◌-◌, ◌^◌, ◌<◌, ◌≤◌, min, max, Bool, true, false, ◌&&◌, ◌==◌, Result, Ok, Option, Some, None, is_some, option_map, unwrap_or, List, [], ◌∷◌, ◌++◌, length, if◌then◌else◌}
use Rattle.std.specs.Option.{ForSome, IsSomeAnd}
use Rattle.fl_flash.specs.Flash.{FlashState}
use Rattle.fl_index.specs.declared.index.BitmapIndex.{BitmapIndex}
use Rattle.fl_index.specs.declared.page.Full.{Full}
use Rattle.fl_index.specs.Memory as memory
use Rattle.fl_index.specs.Memory.{ring_shape, next_in, waiting_in, first_waiting, form_in, per_page, IsSameRing}
use Rattle.fl_index.specs.Page.{full_view}
use Rattle.fl_index.specs.Standing as standing
use Rattle.fl_index.specs.Standing.{Waits}
use Rattle.fl_model.specs.Layout.{IndexEntry}
use Rattle.fl_model.specs.Record.{Plan, has_index, entries_per_page}
use Rattle.fl_model.specs.Ring.{Ring}
use Rattle.fl_model.specs.Table.{Table, RingName, IndexRing}
use Rattle.fl_model.specs.Work.{Device}
use Rattle.fl_ring.specs.Ring.{Shape, OutsideStands, room}
use Rattle.fl_frame.specs.Watched.{IsWatched}
use Rattle.fl_ring.specs.declared.fault.RingFault.{RingFault}
use Rattle.fl_flash.specs.declared.flash.FlashFault.{FlashFault}
use Rattle.fl_index.specs.Outcomes as outcomes

-- as a plan says, where its index ring begins at this block; only an index has full entries
abbrev pub ArePlanned : Option BitmapIndex → ℕ → Plan → Type 0
ArePlanned None first plan = (plan.index_blocks ≡ 0) × (plan.full_index ≡ false)
ArePlanned (Some index) first plan = memory.IsPlanned index first plan

-- what no call changes
abbrev pub AreSamePlan : Option BitmapIndex → Option BitmapIndex → Type 0
AreSamePlan None None = Unit {0}
AreSamePlan (Some old) (Some new) = memory.IsSamePlan old new
AreSamePlan None (Some new) = ⊥
AreSamePlan (Some old) None = ⊥

-- a flash on which the index lies
abbrev pub LieOn : Option BitmapIndex → FlashState → Type 0
LieOn None f = Unit {0}
LieOn (Some index) f = memory.LiesOn index f

-- .. and what no call changes that leaves the ring
abbrev pub AreSameRing : Option BitmapIndex → Option BitmapIndex → Type 0
AreSameRing None None = Unit {0}
AreSameRing (Some old) (Some new) = IsSameRing old new
AreSameRing None (Some new) = ⊥
AreSameRing (Some old) None = ⊥

-- The ring is the one that was found. Where entries aren't full, what is remembered of its pages stays too.
abbrev pub StaysFound : Bool → BitmapIndex → BitmapIndex → Type 0
StaysFound true old new = (memory.is_running new ≡ memory.is_running old) × (memory.oldest_in new ≡ memory.oldest_in old) × (next_in new ≡ next_in old)
StaysFound false old new = IsSameRing old new

abbrev pub AreStillFound : Option BitmapIndex → Option BitmapIndex → Type 0
AreStillFound None None = Unit {0}
AreStillFound (Some old) (Some new) = StaysFound (form_in old).full old new
AreStillFound None (Some new) = ⊥
AreStillFound (Some old) None = ⊥

-- it stands for that of a table of the model, where no entry waits without an index
abbrev pub Stand : Option BitmapIndex → FlashState → ℕ → Plan → Table → Type 0
Stand None f first plan table = table.waiting ≡ []
Stand (Some index) f first plan table = standing.Stands index f first plan table

-- .. but for the entries that wait
abbrev pub StandForRing : Option BitmapIndex → FlashState → ℕ → Plan → Table → Type 0
StandForRing None f first plan table = Unit {0}
StandForRing (Some index) f first plan table = standing.StandsForRing index f first plan table

-- these entries wait, from that of a data page on
abbrev pub AreWaiting : Option BitmapIndex → ℕ → List IndexEntry → Type 0
AreWaiting None first entries = Unit {0}
AreWaiting (Some index) first entries = Waits index first entries

-- the index was mounted, where there is one, and no seal of it failed since
abbrev pub AreRunning : Option BitmapIndex → Type 0
AreRunning bitmaps = ForSome bitmaps (λ index. memory.is_running index ≡ true)

-- a seal of it failed
abbrev pub AreBroken : Option BitmapIndex → Type 0
AreBroken bitmaps = ForSome bitmaps (λ index. memory.is_running index ≡ false)

-- no entry waits
abbrev pub AreIdle : Option BitmapIndex → Type 0
AreIdle None = Unit {0}
AreIdle (Some index) = waiting_in index ≡ 0

-- one entry more has room
abbrev pub HaveRoom : Option BitmapIndex → Type 0
HaveRoom bitmaps = ForSome bitmaps (λ index. waiting_in index < per_page index)

-- the waiting entries are those of the data pages before this number
abbrev pub EndAt : Option BitmapIndex → ℕ → Type 0
EndAt bitmaps next = ForSome bitmaps (λ index. first_waiting index + waiting_in index ≡ next)

-- an index page has a number
abbrev pub NumberLeft : Option BitmapIndex → Type 0
NumberLeft bitmaps = ForSome bitmaps (λ index. next_in index + 1 < 2 ^ 32)

-- the first data page whose entry waits after a mount: of the pages that the index doesn't list the last ones wait
abbrev pub first_to_wait : Option BitmapIndex → ℕ → ℕ → ℕ → ℕ
first_to_wait None end oldest next = next
first_to_wait (Some index) end oldest next = next - min (next - max end oldest) (per_page index)

-- how many pages the index ring has
abbrev pub room_of : Option BitmapIndex → ℕ
room_of bitmaps = unwrap_or (option_map (λ index. room (ring_shape index)) bitmaps) 0

-- the number of the next index page
abbrev pub next_of : Option BitmapIndex → ℕ
next_of bitmaps = unwrap_or (option_map (λ index. next_in index) bitmaps) 0

-- .. and after the seal of the waiting entries, where they fill a page
abbrev pub next_after : Option BitmapIndex → ℕ
next_after bitmaps = unwrap_or (option_map (λ index. next_in index + (if waiting_in index == per_page index then 1 else 0)) bitmaps) 0

-- the oldest index page that is kept, and after that seal
abbrev pub oldest_of : Option BitmapIndex → ℕ
oldest_of bitmaps = unwrap_or (option_map (λ index. memory.oldest_in index) bitmaps) 0

abbrev pub oldest_after : Option BitmapIndex → ℕ
oldest_after bitmaps = unwrap_or (option_map (λ index. if waiting_in index == per_page index then memory.oldest_after index else memory.oldest_in index) bitmaps) 0

-- how many rings an index has
abbrev pub rings_of : Option BitmapIndex → ℕ
rings_of bitmaps = if is_some bitmaps then 1 else 0

-- the flash pages that the seal of the waiting entries changes, where they fill a page
abbrev pub MaySeal : Option BitmapIndex → ℕ → Type 0
MaySeal bitmaps page = IsSomeAnd bitmaps (λ index. (waiting_in index ≡ per_page index) × memory.MaySeal index page)

-- an index page is sealed where as many entries wait as it holds
abbrev pub bitmap_seals : Plan → Table → List RingName
bitmap_seals plan table = if has_index plan && (length table.waiting == entries_per_page plan) then IndexRing ∷ [] else []

-- One entry more waits, that of the data page behind the others: an entry with this bitmap, and where entries are full with the rest.
pub record IsNoted (old : BitmapIndex) (bitmap : ℕ) (full : Full) (new : BitmapIndex) : Type 0 where
  pub same : memory.IsSamePlan old new
  pub still : IsSameRing old new
  pub first : first_waiting new ≡ first_waiting old
  pub one : waiting_in new ≡ waiting_in old + 1
  pub waits : (first : ℕ) (entries : List IndexEntry) (entry : IndexEntry) → Waits old first entries → entry.bitmap ≡ bitmap → ((form_in old).full ≡ true → entry.full ≡ full_view full) →
      Waits new first (entries ++ entry ∷ [])

-- .. where it is the next one to wait
abbrev pub AreNoted : Option BitmapIndex → ℕ → ℕ → Full → Option BitmapIndex → Type 0
AreNoted None number bitmap full new = new ≡ None
AreNoted (Some old) number bitmap full None = ⊥
AreNoted (Some old) number bitmap full (Some new) =
    (first_waiting old + waiting_in old ≡ number → IsNoted old bitmap full new) × ((first_waiting old + waiting_in old ≡ number → ⊥) → new ≡ old)

-- Room was made for one entry more.
pub record IsRoomMade (old new : BitmapIndex) : Type 0 where
  pub running : memory.is_running new ≡ true
  pub room : waiting_in new < per_page new
  pub same : first_waiting new + waiting_in new ≡ first_waiting old + waiting_in old
  pub number : next_in new ≡ (if waiting_in old == per_page old then next_in old + 1 else next_in old)
  pub oldest : memory.oldest_in new ≡ (if waiting_in old == per_page old then memory.oldest_after old else memory.oldest_in old)
  pub firsts : memory.FirstsGoOn old new

abbrev pub RoomMade : Option BitmapIndex → Option BitmapIndex → Type 0
RoomMade None new = new ≡ None
RoomMade (Some old) None = ⊥
RoomMade (Some old) (Some new) = IsRoomMade old new

-- the first data pages of the index pages that it keeps are remembered as after the seal of the waiting entries
abbrev pub FirstsGoOn : Option BitmapIndex → Option BitmapIndex → Type 0
FirstsGoOn None new = Unit {0}
FirstsGoOn (Some old) None = ⊥
FirstsGoOn (Some old) (Some new) = memory.FirstsGoOn old new

-- its next page, the oldest one that it keeps and what is remembered of the pages that it keeps are those after the seal of the waiting
-- entries
pub record RingGoesOn (old new : Option BitmapIndex) : Type 0 where
  pub next : next_of new ≡ next_after old
  pub oldest : oldest_of new ≡ oldest_after old
  pub firsts : FirstsGoOn old new

-- how the calls end, over a flash that stands for a table of the model
abbrev pub MakesRoomOf : Option BitmapIndex → FlashState → ℕ → Plan → Table → Bool → Device → Result (Unit {0}) FlashFault → Option BitmapIndex → FlashState → Type 0
MakesRoomOf None old first plan table rose device result new_index new = (result ≡ Ok tt) × (new_index ≡ None) × (new ≡ old)
MakesRoomOf (Some index) old first plan table rose device result None new = ⊥
MakesRoomOf (Some index) old first plan table rose device result (Some now) new =
    IsWatched old new rose device → standing.Stands index old first plan table → outcomes.MakesRoom first plan table rose device result now old new

-- what is remembered of the index pages after the first part of a mount: where entries are full, of none its first data page
abbrev pub RemembersFound : Bool → BitmapIndex → BitmapIndex → Plan → Table → Ring → Type 0
RemembersFound true now = standing.RemembersBelow (memory.oldest_in now)
RemembersFound false now = standing.RemembersAll

abbrev pub MountEndsOf : Option BitmapIndex → FlashState → ℕ → Plan → Table → Bool → Device → Result (Option ℕ) RingFault → Option BitmapIndex → FlashState → Type 0
MountEndsOf None old first plan table rose device result new_index new = (result ≡ Ok None) × (new_index ≡ None) × (new ≡ old)
MountEndsOf (Some index) old first plan table rose device result None new = ⊥
MountEndsOf (Some index) old first plan table rose device result (Some now) new =
    IsWatched old new rose device → memory.IsPlanned index first plan → standing.Rests old first plan table →
    outcomes.EndsAs (RemembersFound (form_in index).full now) first plan table rose device result now new

-- a flash page that isn't one of a ring's
abbrev pub IsOutside : Shape → ℕ → Type 0
IsOutside shape page = (page < shape.first) ⊎ (shape.first + room shape ≤ page)

-- the flash pages outside the index ring stand
abbrev pub StandOutside : Option BitmapIndex → (ℕ → List ℕ) → (ℕ → List ℕ) → Type 0
StandOutside None old new = (page : ℕ) → new page ≡ old page
StandOutside (Some index) old new = OutsideStands (ring_shape index) old new
