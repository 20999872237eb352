-- The mount of a table's variable data, and the blobs that are opened.
use Rattle.std.specs.Prelude.{◌≡◌, ◌⊎◌, ℕ, ◌-◌, ◌<◌, ◌≤◌, Bool, true, Result, Ok, Err, Option, Some, None}
use Rattle.fl_flash.specs.Flash.{FlashState}
use Rattle.fl_model.specs.Agrees.{BlobsOf}
use Rattle.fl_model.specs.Mount.{renumber, blob_end}
use Rattle.fl_model.specs.Record.{Plan}
use Rattle.fl_model.specs.Ring.{Ring, oldest}
use Rattle.fl_model.specs.Table.{Table, VarRing}
use Rattle.fl_model.specs.Within.{TablePerforms, repair_within}
use Rattle.fl_model.specs.Work.{Device, Whole, PartProgress}
use Rattle.fl_frame.specs.Device.{SameDevice}
use Rattle.fl_ring.specs.Finding.{FoundFault}
use Rattle.fl_ring.specs.Mounting.{FailsAs}
use Rattle.fl_frame.specs.Watched.{IsWatched}
use Rattle.fl_ring.specs.declared.fault.RingFault.{RingFault}
use Rattle.fl_ring.specs.declared.fault.RingFault.TheVariants.{Flash, BadHead, BadGap, BadPage, NoNumber}
use Rattle.std.specs.Option.{ForSome}
use Rattle.fl_parts.specs.BlobEnds.{least_of}
use Rattle.fl_parts.specs.Faults.{of_ring}
use Rattle.fl_parts.specs.declared.mount_fault.MountFault.{MountFault}
use Rattle.fl_parts.specs.declared.mount_fault.MountFault.TheVariants as mount
use Rattle.fl_parts.specs.Blobs.{IsPlanned, AreIn, AreLed, ArePlaced}
use Rattle.fl_parts.specs.Mountable.{AreVoid}
use Rattle.fl_var.specs.Memory.{next_in, var_shape}
use Rattle.fl_var.specs.Mounting as mounting
use Rattle.fl_var.specs.Mounting.{MountsBadly}
use Rattle.fl_var.specs.Standing as standing
use Rattle.fl_var.specs.declared.var_data.VarData.{VarData}

-- a flash stands for the variable data of a table that isn't mounted, which has the blobs that stand in its pages
pub record Rests (var : VarData) (f : FlashState) (first : ℕ) (plan : Plan) (table : Table) : Type 0 where
  pub planned : IsPlanned var first plan
  pub in_pages : mounting.Rests var f plan table
  pub led : AreLed plan in_pages.ring table.entries
  -- blobs begin before pages that are all void
  pub void : AreVoid in_pages.ring.counts → blob_end table ≤ oldest in_pages.ring
  pub stand : BlobsOf plan table in_pages.ring

-- It ended well: the ring has its numbers and is repaired, and each blob begins on a page before the next one. Where none began on a
-- void page, none does.
pub record MountsWell (first : ℕ) (plan : Plan) (table : Table) (rose : Bool) (device : Device) (var : VarData) (new : FlashState) : Type 0 where
  pub now : PartProgress Table
  pub did : TablePerforms plan rose (repair_within plan VarRing (renumber plan VarRing table)) device (renumber plan VarRing table) now
  pub whole : now.end ≡ Whole
  pub counts : SameDevice new now.device
  pub power : new.is_on ≡ true
  pub planned : IsPlanned var first plan
  pub in_pages : standing.Stands var new plan now.state
  pub placed : (ring : Ring) → table.var ≡ Some ring → AreIn plan ring table.entries → ArePlaced in_pages.ring.ring now.state.entries
  pub below : blob_end table ≤ next_in var

abbrev pub MountEnds : ℕ → Plan → Table → Bool → Device → VarData → Result (Unit {0}) RingFault → VarData → FlashState → Type 0
MountEnds first plan table rose device old (Ok done) var new = MountsWell first plan table rose device var new
MountEnds first plan table rose device old (Err (Flash fault)) var new = MountsBadly plan table rose device fault old new
MountEnds first plan table rose device old (Err (BadHead heads)) var new = ⊥
MountEnds first plan table rose device old (Err (BadGap page)) var new = ⊥
MountEnds first plan table rose device old (Err (BadPage page wanted found)) var new = ⊥
MountEnds first plan table rose device old (Err (NoNumber at_least)) var new = ⊥

abbrev pub MountEndsOf : Option VarData → FlashState → ℕ → Plan → Table → Bool → Device → Result (Unit {0}) RingFault → Option VarData → FlashState → Type 0
MountEndsOf None old first plan table rose device result blobs new = (result ≡ Ok tt) × (blobs ≡ None) × (new ≡ old)
MountEndsOf (Some var) old first plan table rose device result None new = ⊥
MountEndsOf (Some var) old first plan table rose device result (Some now) new =
    IsWatched old new rose device → Rests var old first plan table → MountEnds first plan table rose device var result now new

-- the ring was found as its pages say, over any bytes
abbrev pub FindsBlobs : Option VarData → FlashState → ℕ → Option VarData → FlashState → Type 0
FindsBlobs None old at_least blobs new = (blobs ≡ None) × (new ≡ old)
FindsBlobs (Some var) old at_least None new = ⊥
FindsBlobs (Some var) old at_least (Some now) new = mounting.Finds var old at_least now new

-- .. or is refused
abbrev pub RefusesBlobs : Option VarData → FlashState → ℕ → RingFault → FlashState → Type 0
RefusesBlobs None old at_least fault new = ⊥
RefusesBlobs (Some var) old at_least fault new = FoundFault old (var_shape var) at_least fault × FailsAs old (var_shape var) at_least fault new

-- A blob begins on a page from the next number on.
pub record HasBadBlob (blobs : Option VarData) (old : FlashState) (end : ℕ) (fault : MountFault) (new : FlashState) : Type 0 where
  pub now : VarData
  pub finds : FindsBlobs blobs old (least_of end) (Some now) new
  pub beyond : next_in now < end
  pub fault_is : fault ≡ mount.BadBlob (least_of (end - 1)) (next_in now)

-- why variable data are refused whose blobs end there
abbrev pub RefusesWithin : Option VarData → FlashState → ℕ → MountFault → FlashState → Type 0
RefusesWithin blobs old end fault new =
    ((e : RingFault) × (fault ≡ of_ring e) × RefusesBlobs blobs old (least_of end) e new) ⊎ HasBadBlob blobs old end fault new

-- the blobs begin before the next page
abbrev pub AreBelow : ℕ → Option VarData → Type 0
AreBelow end blobs = ForSome blobs (λ var. end ≤ next_in var)

-- how the mount ends where it is known where the blobs end
abbrev pub WithinEnds : ℕ → Plan → Table → Bool → Device → VarData → Result (Unit {0}) MountFault → VarData → FlashState → Type 0
WithinEnds first plan table rose device old (Ok done) var new = MountsWell first plan table rose device var new
WithinEnds first plan table rose device old (Err (mount.Flash fault)) var new = MountsBadly plan table rose device fault old new
WithinEnds first plan table rose device old (Err (mount.Ring fault)) var new = ⊥
WithinEnds first plan table rose device old (Err (mount.BadPage bad)) var new = ⊥
WithinEnds first plan table rose device old (Err (mount.BadKeys page last key)) var new = ⊥
WithinEnds first plan table rose device old (Err (mount.BadIndex end next)) var new = ⊥
WithinEnds first plan table rose device old (Err (mount.BadBlob page next)) var new = ⊥
WithinEnds first plan table rose device old (Err (mount.BadEntry page count limit)) var new = ⊥

abbrev pub WithinEndsOf : Option VarData → FlashState → ℕ → Plan → Table → Bool → Device → Result (Unit {0}) MountFault → Option VarData → FlashState → Type 0
WithinEndsOf None old first plan table rose device result blobs new = (result ≡ Ok tt) × (blobs ≡ None) × (new ≡ old)
WithinEndsOf (Some var) old first plan table rose device result None new = ⊥
WithinEndsOf (Some var) old first plan table rose device result (Some now) new =
    IsWatched old new rose device → Rests var old first plan table → WithinEnds first plan table rose device var result now new
