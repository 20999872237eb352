-- How blobs are placed and the rest of the buffer is sealed, over a flash that stands for the variable data of a table.
use Rattle.std.specs.Prelude.{◌≡◌, ℕ, ◌+◌, ◌-◌, ◌/◌, Bool, true, false, if◌then◌else◌, nat_lt, ◌==◌, Some, Result, Ok, Err, List, [], ◌∷◌, length}
use Rattle.fl_base.specs.declared.types.BlobRef.{BlobRef}
use Rattle.fl_flash.specs.Flash.{FlashState}
use Rattle.fl_flash.specs.declared.flash.FlashFault.{FlashFault}
use Rattle.fl_flash.specs.declared.flash.FlashFault.TheVariants.{PowerLost, Media}
use Rattle.fl_model.specs.Record.{Record, Plan}
use Rattle.fl_model.specs.Ring.{Ring}
use Rattle.fl_model.specs.Table as model
use Rattle.fl_model.specs.Table.{RingName, VarRing, fill, blob_len, after_seals, fill_seals, start_page, start_offset, with_record}
use Rattle.fl_model.specs.Work.{Device, PartEnd, Whole, CutIn, FailedIn, PartProgress}
use Rattle.fl_model.specs.Within.{TablePerforms, seals_within}
use Rattle.fl_frame.specs.Device.{SameDevice}
use Rattle.fl_ring.specs.Kept.{PagesStand}
use Rattle.fl_var.specs.Memory.{next_in, waiting_in, room_in, page_in}
use Rattle.fl_var.specs.Standing.{IsVarRing, HasRing}
use Rattle.fl_var.specs.declared.var_data.VarData.{VarData}

-- the place of a blob of this length, before its bytes wait
abbrev pub where_placed : Plan → ℕ → model.Table → BlobRef
where_placed plan len table = record { page = start_page plan len table; offset = start_offset plan len table; length = len }

-- no byte more has room in the buffer
abbrev pub is_full_in : VarData → Bool
is_full_in v = length (waiting_in v) == room_in v

-- the pages that are sealed for a blob of this length: those that its bytes fill behind the ones that wait, but for the last one
abbrev pub pages_placed : VarData → ℕ → ℕ
pages_placed v len = (length (waiting_in v) + len - 1) / room_in v

-- the place from memory alone: the empty blob has no page, and a full buffer is sealed first
abbrev pub reference_in : VarData → ℕ → BlobRef
reference_in v len =
    if len == 0 then record { page = 0; offset = 0; length = 0 }
    else if is_full_in v then record { page = next_in v + 1; offset = 0; length = len }
    else record { page = next_in v; offset = length (waiting_in v); length = len }

-- All seals were done, in their order, and left the ring of this table.
pub record Seals (plan : Plan) (seals : List RingName) (table : model.Table) (rose : Bool) (device : Device) (old : VarData) (old_f : FlashState) (v : VarData) (new : FlashState) : Type 0 where
  pub now : PartProgress model.Table
  pub did : TablePerforms plan rose (seals_within plan seals table) device table now
  pub whole : now.end ≡ Whole
  pub counts : SameDevice new now.device
  pub power : new.is_on ≡ true
  pub has : HasRing v new plan (after_seals plan seals table)
  -- byte by byte, void pages too
  pub stand : (before : Ring) → table.var ≡ Some before → PagesStand before (page_in old old_f) has.ring (page_in v new)

-- the fault that an operation answers where it fails so
abbrev pub FaultEnds : PartEnd model.Table → FlashFault → FlashState → Type 0
FaultEnds Whole fault new = ⊥
FaultEnds (CutIn before) fault new = (fault ≡ PowerLost) × (new.is_on ≡ false)
FaultEnds (FailedIn before) fault new = (fault ≡ Media) × (new.is_on ≡ true)

-- One of their operations failed: the flash stands for the ring that this leaves, and the buffer is lost.
pub record Breaks (plan : Plan) (seals : List RingName) (table : model.Table) (rose : Bool) (device : Device) (fault : FlashFault) (old : VarData) (new : FlashState) : Type 0 where
  pub now : PartProgress model.Table
  pub did : TablePerforms plan rose (seals_within plan seals table) device table now
  pub answer : FaultEnds now.end fault new
  pub counts : SameDevice new now.device
  pub ring : Ring
  pub ring_is : now.state.var ≡ Some ring
  pub pages : IsVarRing plan now.state.var_pages ring (page_in old new)

-- all of these seals were done, or one of their operations failed
abbrev pub EndsWith : Plan → List RingName → model.Table → Bool → Device → VarData → FlashState → Result (Unit {0}) FlashFault → VarData → FlashState → Type 0
EndsWith plan seals table rose device old old_f (Ok done) v new = Seals plan seals table rose device old old_f v new
EndsWith plan seals table rose device old old_f (Err fault) v new = Breaks plan seals table rose device fault old new

-- the page that makes room
abbrev pub room_seals : Bool → List RingName
room_seals full = if full then VarRing ∷ [] else []

-- All seals were done, in their order, and the bytes that wait then are those in the buffer.
pub record Finishes (plan : Plan) (seals : List RingName) (table : model.Table) (rose : Bool) (device : Device) (old : VarData) (old_f : FlashState) (v : VarData) (new : FlashState) : Type 0 where
  pub seals_are : Seals plan seals table rose device old old_f v new
  pub buffered : (after_seals plan seals table).buffered ≡ waiting_in v

-- The blob of a record was placed where the model places it: its bytes joined those that wait, and the pages that they fill were
-- sealed.
abbrev pub PlaceEnds : Plan → Record → model.Table → Bool → Device → VarData → FlashState → Result BlobRef FlashFault → VarData → FlashState → Type 0
PlaceEnds plan item table rose device old old_f (Ok at) v new =
    let joined = with_record plan item table in
    (at ≡ where_placed plan (blob_len item) table) × Finishes plan (fill_seals plan joined) joined rose device old old_f v new
PlaceEnds plan item table rose device old old_f (Err fault) v new =
    let joined = with_record plan item table in Breaks plan (fill_seals plan joined) joined rose device fault old new

-- the bytes that wait are sealed, where there are any
abbrev pub rest_seals : model.Table → List RingName
rest_seals table = if nat_lt 0 (fill table) then VarRing ∷ [] else []

abbrev pub RestEnds : Plan → model.Table → Bool → Device → VarData → FlashState → Result (Unit {0}) FlashFault → VarData → FlashState → Type 0
RestEnds plan table rose device old old_f (Ok done) v new = Finishes plan (rest_seals table) table rose device old old_f v new
RestEnds plan table rose device old old_f (Err fault) v new = Breaks plan (rest_seals table) table rose device fault old new
