-- The seals of a table's rings in turn: of the waiting entries, of the bytes of blobs that wait, and of the rows.
use Rattle.std.specs.Prelude.{◌≡◌, ◌⊎◌, ℕ, ◌+◌, ◌^◌, ◌<◌, ◌≤◌, Bool, Option, IfSome, Result, Ok, Err, OnOk, OnErr, IsTrue, List, length}
use Rattle.fl_flash.specs.Flash.{FlashState, page_at}
use Rattle.fl_flash.specs.Places.{extent}
use Rattle.fl_flash.specs.declared.flash.FlashFault.{FlashFault}
use Rattle.fl_flash.specs.declared.flash.FlashFault.TheVariants.{PowerLost}
use Rattle.fl_frame.specs.Causes.{CausedBy}
use Rattle.fl_frame.specs.Watched.{IsWatched}
use Rattle.fl_index.specs.declared.index.BitmapIndex.{BitmapIndex}
use Rattle.fl_model.specs.Record.{Plan}
use Rattle.fl_model.specs.Table.{Table}
use Rattle.fl_model.specs.Work.{Device}
use Rattle.fl_parts.specs.Bitmaps as bitmaps
use Rattle.fl_parts.specs.Bitmaps.{MakesRoomOf, RoomMade, NumberLeft}
use Rattle.fl_parts.specs.Blobs as variable
use Rattle.fl_parts.specs.Blobs.{RestEndsOf, NumbersLeft}
use Rattle.fl_parts.specs.Faults.{OffFailsAs}
use Rattle.fl_ring.specs.Newest.{number_of}
use Rattle.fl_ring.specs.Place.{next_of, shape_of, LiesOn}
use Rattle.fl_ring.specs.Ring.{RingState}
use Rattle.fl_ring.specs.Sealed.{SealsInMemory, SealsOnFlash}
use Rattle.fl_ring.specs.Sealing.{IsReady, Seals}
use Rattle.fl_ring.specs.declared.ring.Ring.{Ring}
use Rattle.fl_parts.specs.Calls.{Changes}
use Rattle.fl_var.specs.Memory.{waiting_in, BytesAhead, BytesPaged}
use Rattle.fl_var.specs.declared.var_data.VarData.{VarData}

-- The rings may be sealed: they run, lie on the flash and have numbers left, and the body is that of the next page of rows.
pub record CanSeal (index : Option BitmapIndex) (blobs : Option VarData) (ring : Ring) (body : List ℕ) (f : FlashState) : Type 0 where
  pub index_runs : bitmaps.AreRunning index
  pub index_lies : bitmaps.LieOn index f
  pub index_left : NumberLeft index
  pub blobs_run : variable.AreRunning blobs
  pub blobs_lie : variable.LieOn blobs f
  pub blobs_left : NumbersLeft blobs
  pub ring_lies : LiesOn ring f
  pub size : length body + 8 ≡ (shape_of ring).size
  pub numbered : number_of body ≡ next_of ring
  pub left : next_of ring + 1 < 2 ^ 32

-- room was made for one entry more
pub record SealsEntries (index : Option BitmapIndex) (old : FlashState) (result : Result (Unit {0}) FlashFault) (now : Option BitmapIndex) (new : FlashState) : Type 0 where
  pub same : bitmaps.AreSamePlan index now
  pub lies : bitmaps.LieOn now new
  pub made : OnOk result (RoomMade index now)
  pub broken : OnErr result (bitmaps.AreBroken now)
  pub ends : (first : ℕ) → (plan : Plan) → (table : Table) → (rose : Bool) → (device : Device) → MakesRoomOf index old first plan table rose device result now new
  pub off : OffFailsAs PowerLost old result new
  pub flash : Changes (bitmaps.MaySeal index) (bitmaps.StandOutside index) (bitmaps.rings_of index) CausedBy old result new

-- the bytes of blobs that waited were sealed
pub record SealsBytes (blobs : Option VarData) (old : FlashState) (result : Result (Unit {0}) FlashFault) (now : Option VarData) (new : FlashState) : Type 0 where
  pub same : variable.AreSamePlan blobs now
  pub lies : variable.LieOn now new
  pub running : OnOk result (variable.AreRunning now)
  pub next : OnOk result (variable.next_of now ≡ variable.next_after blobs)
  pub oldest : OnOk result (variable.oldest_of now ≡ variable.oldest_after blobs)
  pub empty : OnOk result (variable.AreEmpty now)
  pub ends : (first : ℕ) → (plan : Plan) → (table : Table) → (rose : Bool) → (device : Device) → RestEndsOf blobs old first plan table rose device result now new
  pub page : IfSome blobs (λ var. 1 ≤ length (waiting_in var) → OnOk result (IsTrue old.media.tells → BytesPaged var (page_at old) (page_at new)))
  pub ahead : IfSome blobs (λ var. 1 ≤ length (waiting_in var) → OnOk result (IsTrue old.media.tells → BytesAhead var (λ page. ⊥) (page_at new)))
  pub off : OffFailsAs PowerLost old result new
  pub flash : Changes (variable.MaySeal blobs) (variable.StandOutside blobs) (variable.rings_of blobs) CausedBy old result new

-- a page of rows was sealed
pub record SealsRows (ring : Ring) (body : List ℕ) (old : FlashState) (result : Result (Unit {0}) FlashFault) (now : Ring) (new : FlashState) : Type 0 where
  pub seals : (s : RingState) → (rose : Bool) → (device : Device) → IsReady ring old s → IsWatched old new rose device → Seals s body rose device ring result now new
  pub memory : SealsInMemory ring body result now new
  pub flash : SealsOnFlash ring body old result new

-- The last of the three was tried after the others were done, ..
pub record ReachesRows (index : Option BitmapIndex) (blobs : Option VarData) (ring : Ring) (body : List ℕ) (old : FlashState) (result : Result (Unit {0}) FlashFault) (listed : Option BitmapIndex) (rest : Option VarData) (now : Ring) (new : FlashState) : Type 0 where
  pub first : FlashState
  pub then : FlashState
  pub reaches : then.start + extent then.geometry then.blocks ≤ length then.media.content
  pub entries : SealsEntries index old (Ok tt) listed first
  pub bytes : SealsBytes blobs first (Ok tt) rest then
  pub rows : SealsRows ring body then result now new

-- .. or the second failed
pub record StopsAtBytes (index : Option BitmapIndex) (blobs : Option VarData) (old : FlashState) (fault : FlashFault) (listed : Option BitmapIndex) (rest : Option VarData) (new : FlashState) : Type 0 where
  pub first : FlashState
  pub entries : SealsEntries index old (Ok tt) listed first
  pub bytes : SealsBytes blobs first (Err fault) rest new

-- .. or the first, and the others weren't tried
abbrev pub SealsInTurn : Option BitmapIndex → Option VarData → Ring → List ℕ → FlashState → Result (Unit {0}) FlashFault → Option BitmapIndex → Option VarData → Ring → FlashState → Type 0
SealsInTurn index blobs ring body old (Ok done) listed rest now new = ReachesRows index blobs ring body old (Ok done) listed rest now new
SealsInTurn index blobs ring body old (Err fault) listed rest now new =
    (SealsEntries index old (Err fault) listed new × (rest ≡ blobs))
    ⊎ (StopsAtBytes index blobs old fault listed rest new ⊎ ReachesRows index blobs ring body old (Err fault) listed rest now new)
