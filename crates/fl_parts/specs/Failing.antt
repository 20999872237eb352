-- How seals and mounts of a table's rings go, and what one that fails leaves on the flash.
use Rattle.std.specs.Prelude.{◌≡◌, ℕ, Bool, true, false, ◌⊎◌, List, [], ◌∷◌, map, if◌then◌else◌}
use Rattle.fl_flash.specs.Flash.{FlashState, page_at}
use Rattle.fl_flash.specs.declared.flash.FlashFault.{FlashFault}
use Rattle.fl_flash.specs.declared.flash.FlashFault.TheVariants.{PowerLost, Media}
use Rattle.fl_frame.specs.Device.{SameDevice}
use Rattle.fl_model.specs.Record.{Plan, has_var}
use Rattle.fl_model.specs.Table as model
use Rattle.fl_model.specs.Table.{RingName, VarRing, lose}
use Rattle.fl_model.specs.Work.{Device, PartEnd, Whole, CutIn, FailedIn, PartProgress}
use Rattle.fl_model.specs.Within.{TablePerforms, seals_within, TableStopped, TableUnread, TableMounts}
use Rattle.fl_model.specs.Mount.{Of}
use Rattle.fl_model.specs.Facts.{IsSettled}
use Rattle.fl_parts.specs.Mountable.{IsPaged}
use Rattle.fl_parts.specs.Pages.{HoldsTable, Rests}

-- how the seals of these rings may go, one after another
abbrev pub BySeals : Plan → List RingName → model.Table → Bool → Device → PartProgress model.Table → Type 0
BySeals plan rings table rose device now = TablePerforms plan rose (seals_within plan rings table) device table now

-- the fault that an operation answers where it fails so
abbrev pub FaultEnds : PartEnd model.Table → FlashFault → FlashState → Type 0
FaultEnds Whole fault new = ⊥
FaultEnds (CutIn before) fault new = (fault ≡ PowerLost) × (new.is_on ≡ false)
FaultEnds (FailedIn before) fault new = (fault ≡ Media) × (new.is_on ≡ true)

-- One of the operations failed. The table is stopped, and the flash stands for what is left without what was in memory.
pub record Breaks (first : ℕ) (plan : Plan) (Did : PartProgress model.Table → Type 0) (fault : FlashFault) (new : FlashState) : Type 0 where
  pub now : PartProgress model.Table
  pub did : Did now
  pub answer : FaultEnds now.end fault new
  pub counts : SameDevice new now.device
  pub rests : Rests new first plan (lose now.state)

-- It failed in an operation of a repair, or in a read: what was repaired until then stays, and its pages fit one another. So a further
-- mount takes it, where a ring whose pages are all void can still be numbered anew.
pub record MountsBadly (first : ℕ) (plan : Plan) (rings : List RingName) (table : model.Table) (rose : Bool) (device : Device) (fault : FlashFault) (new : FlashState) : Type 0 where
  pub now : PartProgress model.Table
  pub did : (TableMounts plan rose (map (λ ring. Of ring) rings) device table (TableStopped now) × FaultEnds now.end fault new)
      ⊎ (TableMounts plan rose (map (λ ring. Of ring) rings) device table (TableUnread now) × (fault ≡ Media))
  pub counts : SameDevice new now.device
  pub lost : now.state ≡ lose now.state
  pub paged : IsPaged plan now.state
  pub pages : HoldsTable (page_at new) first plan now.state
  pub rests : IsSettled plan table → Rests new first plan now.state

-- the ring of variable data, where a plan has one
abbrev pub var_rings : Plan → List RingName
var_rings plan = if has_var plan then VarRing ∷ [] else []
