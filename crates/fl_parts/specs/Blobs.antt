-- The variable data of a table, where it has any: the blobs of its records.
use Rattle.std.specs.Prelude.{◌≡◌, ◌⊎◌, ℕ, ◌+◌, ◌-◌, ◌*◌, ◌/◌, ◌^◌, ◌<◌, ◌≤◌, Bool, true, ◌==◌, Result, Ok, Err, Option, Some, None, is_some, option_map, unwrap_or, List, [], ◌++◌, length, drop, slice_get, if◌then◌else◌}
use Rattle.std.specs.Option.{ForSome, IsSomeAnd}
use Rattle.fl_base.specs.declared.types.BlobRef.{BlobRef}
use Rattle.fl_flash.specs.Flash.{FlashState}
use Rattle.fl_flash.specs.declared.flash.FlashFault.{FlashFault}
use Rattle.fl_model.specs.Record.{Record, Plan}
use Rattle.fl_model.specs.Ring.{Ring, oldest}
use Rattle.fl_model.specs.Query.{page_stands}
use Rattle.fl_model.specs.Agrees.{reach_of}
use Rattle.fl_model.specs.Table.{Table, Entry, RingName, fill_seals, after_seals, with_record}
use Rattle.fl_model.specs.Within.{TablePerforms, seals_within}
use Rattle.fl_model.specs.Work.{Device, Whole, PartProgress}
use Rattle.fl_frame.specs.Device.{SameDevice}
use Rattle.fl_ring.specs.Kept.{PagesStand}
use Rattle.fl_ring.specs.Ring.{OutsideStands, room}
use Rattle.fl_frame.specs.Watched.{IsWatched}
use Rattle.fl_var.specs.Memory as memory
use Rattle.fl_var.specs.Memory.{is_mounted, next_in, oldest_in, waiting_in, room_in, page_in, var_shape}
use Rattle.fl_var.specs.Placing.{Breaks, where_placed, pages_placed, reference_in}
pub use Rattle.fl_var.specs.Placing.{rest_seals}
use Rattle.fl_var.specs.Standing as standing
use Rattle.fl_var.specs.declared.var_data.VarData.{VarData}

-- as a plan says, where the ring begins at this block
pub record IsPlanned (var : VarData) (first : ℕ) (plan : Plan) : Type 0 where
  pub planned : memory.IsPlanned var plan
  pub begins : (var_shape var).first ≡ first * plan.geometry.block

abbrev pub ArePlanned : Option VarData → ℕ → Plan → Type 0
ArePlanned None first plan = plan.var_blocks ≡ 0
ArePlanned (Some var) first plan = IsPlanned var first plan

-- what no call changes
abbrev pub AreSamePlan : Option VarData → Option VarData → Type 0
AreSamePlan None None = Unit {0}
AreSamePlan (Some old) (Some new) = memory.IsSamePlan old new
AreSamePlan None (Some new) = ⊥
AreSamePlan (Some old) None = ⊥

-- a flash on which the variable data lie
abbrev pub LieOn : Option VarData → FlashState → Type 0
LieOn None f = Unit {0}
LieOn (Some var) f = memory.LiesOn var f

-- they were mounted, where there are any, and no seal of them failed since
abbrev pub AreRunning : Option VarData → Type 0
AreRunning blobs = ForSome blobs (λ var. is_mounted var ≡ true)

-- no byte waits
abbrev pub AreEmpty : Option VarData → Type 0
AreEmpty None = Unit {0}
AreEmpty (Some var) = waiting_in var ≡ []

-- the pages of a put and of its seal have numbers
abbrev pub NumbersLeft : Option VarData → Type 0
NumbersLeft None = Unit {0}
NumbersLeft (Some var) = next_in var + 64 < 2 ^ 32

-- a blob that a put may be given
abbrev pub HasFew : Option (List ℕ) → Type 0
HasFew None = Unit {0}
HasFew (Some bytes) = length bytes ≤ 1500

-- the pages that are sealed while a blob is placed
abbrev pub pages_for : Option VarData → Option (List ℕ) → ℕ
pages_for None blob = 0
pages_for (Some var) None = 0
pages_for (Some var) (Some bytes) = pages_placed var (length bytes)

-- .. at most, whatever waits
abbrev pub most_pages : Option VarData → Option (List ℕ) → ℕ
most_pages None blob = 0
most_pages (Some var) None = 0
most_pages (Some var) (Some bytes) = length bytes / room_in var + 1

-- where a blob begins that is placed now, if there is one and the table keeps blobs
abbrev pub placed_in : Option (List ℕ) → Option VarData → Option BlobRef
placed_in None blobs = None
placed_in (Some bytes) None = None
placed_in (Some bytes) (Some var) = Some (reference_in var (length bytes))

-- It was placed: its bytes wait behind those that did, but for those that filled pages. For these the ring gave up what it had to.
pub record HasPlaced (bytes : List ℕ) (old new : VarData) : Type 0 where
  pub next : next_in new ≡ next_in old + pages_placed old (length bytes)
  pub oldest : oldest_in new ≡ memory.oldest_after old (pages_placed old (length bytes))
  pub waits : waiting_in new ≡ drop (pages_placed old (length bytes) * room_in old) (waiting_in old ++ bytes)

abbrev pub HavePlaced : Option (List ℕ) → Option VarData → Option VarData → Type 0
HavePlaced None blobs new = new ≡ blobs
HavePlaced (Some bytes) None new = new ≡ None
HavePlaced (Some bytes) (Some var) None = ⊥
HavePlaced (Some bytes) (Some var) (Some now) = HasPlaced bytes var now

-- the number of the next page
abbrev pub next_of : Option VarData → ℕ
next_of blobs = unwrap_or (option_map (λ var. next_in var) blobs) 0

-- .. and after the bytes that wait were sealed
abbrev pub next_after : Option VarData → ℕ
next_after blobs = unwrap_or (option_map (λ var. if length (waiting_in var) == 0 then next_in var else next_in var + 1) blobs) 0

-- the oldest page that is kept, and after that
abbrev pub oldest_of : Option VarData → ℕ
oldest_of blobs = unwrap_or (option_map (λ var. oldest_in var) blobs) 0

abbrev pub oldest_after : Option VarData → ℕ
oldest_after blobs = unwrap_or (option_map (λ var. memory.oldest_after var (if length (waiting_in var) == 0 then 0 else 1)) blobs) 0

-- each blob of these records was given up, or is in kept pages
abbrev pub AreIn : Plan → Ring → List Entry → Type 0
AreIn plan ring entries =
    (i : ℕ) (entry : Entry) (blob : List ℕ) → slice_get entries i ≡ Some entry → entry.kept.blob ≡ Some blob → 0 < length blob →
    (entry.page < oldest ring) ⊎ ((oldest ring ≤ entry.page) × (slice_get ring.counts (entry.page - oldest ring) ≡ Some 1) × (entry.page + reach_of plan entry blob < ring.next))

-- .. or begins on a page that was written, and where that page stands, all pages of the blob were: it may have become a void one
abbrev pub AreLed : Plan → Ring → List Entry → Type 0
AreLed plan ring entries =
    (i : ℕ) (entry : Entry) (blob : List ℕ) → slice_get entries i ≡ Some entry → entry.kept.blob ≡ Some blob → 0 < length blob →
    (entry.page < ring.next) × (page_stands ring entry.page ≡ true → entry.page + reach_of plan entry blob < ring.next)

-- .. or begins on a page that is kept or to come
abbrev pub ArePlaced : Ring → List Entry → Type 0
ArePlaced ring entries =
    (i : ℕ) (entry : Entry) (blob : List ℕ) → slice_get entries i ≡ Some entry → entry.kept.blob ≡ Some blob → 0 < length blob →
    (entry.page < oldest ring) ⊎ (page_stands ring entry.page ≡ true)

-- The ring and the buffer stand for those of a table, and no blob of its records begins on a void page.
pub record IsStanding (var : VarData) (f : FlashState) (first : ℕ) (plan : Plan) (table : Table) : Type 0 where
  pub planned : IsPlanned var first plan
  pub in_pages : standing.Stands var f plan table
  pub placed : ArePlaced in_pages.ring.ring table.entries

-- .. but for where its blobs begin
abbrev pub StandInPages : Option VarData → FlashState → ℕ → Plan → Table → Type 0
StandInPages None f first plan table = table.buffered ≡ []
StandInPages (Some var) f first plan table = IsPlanned var first plan × standing.Stands var f plan table

-- where there is no variable data, no byte waits
abbrev pub Stand : Option VarData → FlashState → ℕ → Plan → Table → Type 0
Stand None f first plan table = table.buffered ≡ []
Stand (Some var) f first plan table = IsStanding var f first plan table

-- These seals were all done.
pub record Finishes (first : ℕ) (plan : Plan) (seals : List RingName) (table : Table) (rose : Bool) (device : Device) (old : VarData) (old_f : FlashState) (var : VarData) (new : FlashState) : Type 0 where
  pub now : PartProgress Table
  pub did : TablePerforms plan rose (seals_within plan seals table) device table now
  pub whole : now.end ≡ Whole
  pub counts : SameDevice new now.device
  pub power : new.is_on ≡ true
  pub stands : IsStanding var new first plan (after_seals plan seals table)
  pub stand : (before : Ring) → table.var ≡ Some before → PagesStand before (page_in old old_f) stands.in_pages.ring.ring (page_in var new)

-- the bytes that wait were sealed
abbrev pub RestEnds : ℕ → Plan → Table → Bool → Device → VarData → FlashState → Result (Unit {0}) FlashFault → VarData → FlashState → Type 0
RestEnds first plan table rose device old old_f (Ok done) var new = Finishes first plan (rest_seals table) table rose device old old_f var new
RestEnds first plan table rose device old old_f (Err fault) var new = Breaks plan (rest_seals table) table rose device fault old new

abbrev pub RestEndsOf : Option VarData → FlashState → ℕ → Plan → Table → Bool → Device → Result (Unit {0}) FlashFault → Option VarData → FlashState → Type 0
RestEndsOf None old first plan table rose device result blobs new = (result ≡ Ok tt) × (blobs ≡ None) × (new ≡ old)
RestEndsOf (Some var) old first plan table rose device result None new = ⊥
RestEndsOf (Some var) old first plan table rose device result (Some now) new =
    IsWatched old new rose device → IsStanding var old first plan table → RestEnds first plan table rose device var old result now new

-- where the blob of a record is placed
abbrev pub reference_of : Plan → Record → Table → Option BlobRef
reference_of plan item table = option_map (λ bytes. where_placed plan (length bytes) table) item.blob

-- A record's blob was placed, where it has one: the record joined its table, and the pages that the bytes fill then were sealed.
abbrev pub PlaceEnds : ℕ → Plan → Record → Table → Bool → Device → VarData → FlashState → Result (Option BlobRef) FlashFault → VarData → FlashState → Type 0
PlaceEnds first plan item table rose device old old_f (Ok at) var new =
    let joined = with_record plan item table in
    (at ≡ reference_of plan item table) × Finishes first plan (fill_seals plan joined) joined rose device old old_f var new
PlaceEnds first plan item table rose device old old_f (Err fault) var new =
    let joined = with_record plan item table in Breaks plan (fill_seals plan joined) joined rose device fault old new

abbrev pub PlaceEndsOf : Option VarData → FlashState → ℕ → Plan → Record → Table → Bool → Device → Result (Option BlobRef) FlashFault → Option VarData → FlashState → Type 0
PlaceEndsOf None old first plan item table rose device result blobs new = (result ≡ Ok None) × (blobs ≡ None) × (new ≡ old)
PlaceEndsOf (Some var) old first plan item table rose device result None new = ⊥
PlaceEndsOf (Some var) old first plan item table rose device result (Some now) new =
    IsWatched old new rose device → IsStanding var old first plan table → PlaceEnds first plan item table rose device var old result now new

-- the flash pages outside the ring stand
abbrev pub StandOutside : Option VarData → (ℕ → List ℕ) → (ℕ → List ℕ) → Type 0
StandOutside None old new = (page : ℕ) → new page ≡ old page
StandOutside (Some var) old new = OutsideStands (var_shape var) old new

-- the flash pages that the seal of the bytes changes that wait, where there are any
abbrev pub MaySeal : Option VarData → ℕ → Type 0
MaySeal blobs page = IsSomeAnd blobs (λ var. (1 ≤ length (waiting_in var)) × memory.MaySeal var page)

-- .. and those that may change while a blob is placed
abbrev pub MayFill : Option (List ℕ) → Option VarData → ℕ → Type 0
MayFill None blobs page = ⊥
MayFill (Some bytes) None page = ⊥
MayFill (Some bytes) (Some var) page = memory.IsOnRing var page

-- how many pages the ring has, and how many rings there are
abbrev pub room_of : Option VarData → ℕ
room_of blobs = unwrap_or (option_map (λ var. room (var_shape var)) blobs) 0

abbrev pub rings_of : Option VarData → ℕ
rings_of blobs = if is_some blobs then 1 else 0

-- a reference that a row can have: it isn't the one that stands for none, and its page has a number behind it
abbrev pub FitsRow : Option BlobRef → Type 0
FitsRow None = Unit {0}
FitsRow (Some at) = (at.offset < 4096) × (at.page + 1 < 2 ^ 32)
