-- The mount of variable data.
use Rattle.std.specs.Prelude.{◌≡◌, ◌⊎◌, ℕ, ◌+◌, ◌<◌, Bool, true, if◌then◌else◌, Some, Result, Ok, Err, []}
use Rattle.fl_flash.specs.Flash.{FlashState}
use Rattle.fl_flash.specs.declared.flash.FlashFault.{FlashFault}
use Rattle.fl_flash.specs.declared.flash.FlashFault.TheVariants.{Media}
use Rattle.fl_model.specs.Mount.{renumber}
use Rattle.fl_model.specs.Record.{Plan}
use Rattle.fl_model.specs.Ring.{Ring}
use Rattle.fl_model.specs.Table as model
use Rattle.fl_model.specs.Table.{VarRing}
use Rattle.fl_model.specs.Work.{Device, Whole, PartProgress}
use Rattle.fl_model.specs.Within.{TablePerforms, TableUnreads, repair_within}
use Rattle.fl_frame.specs.Device.{SameDevice}
use Rattle.fl_ring.specs.Mounting.{HasNumbers}
use Rattle.fl_ring.specs.declared.fault.RingFault.{RingFault}
use Rattle.fl_ring.specs.declared.fault.RingFault.TheVariants.{Flash, BadHead, BadGap, BadPage, NoNumber}
use Rattle.fl_ring.specs.declared.ring.Ring as memory
use Rattle.fl_var.specs.Memory.{IsPlanned, page_in, var_shape}
use Rattle.fl_var.specs.Placing.{FaultEnds}
use Rattle.fl_var.specs.Standing.{IsVarRing, Stands}
use Rattle.fl_var.specs.declared.var_data.VarData.{VarData}

-- a flash stands for the variable data of a table that isn't mounted, whose numbers fit after the mount
pub record Rests (v : VarData) (f : FlashState) (plan : Plan) (table : model.Table) : Type 0 where
  pub planned : IsPlanned v plan
  pub ring : Ring
  pub ring_is : table.var ≡ Some ring
  pub pages : IsVarRing plan table.var_pages ring (page_in v f)
  pub empty : table.buffered ≡ []
  pub fits : (numbered : Ring) → (renumber plan VarRing table).var ≡ Some numbered → numbered.next + (if ring.torn then 1 else 0) < 4294967296

-- It ended well: the ring has its numbers, and all its repairs were done.
pub record MountsWell (plan : Plan) (table : model.Table) (rose : Bool) (device : Device) (v : VarData) (new : FlashState) : Type 0 where
  pub now : PartProgress model.Table
  pub did : TablePerforms plan rose (repair_within plan VarRing (renumber plan VarRing table)) device (renumber plan VarRing table) now
  pub whole : now.end ≡ Whole
  pub counts : SameDevice new now.device
  pub power : new.is_on ≡ true
  pub stands : Stands v new plan now.state

-- It failed in an operation of a repair, or in a read: what was repaired until then stays.
pub record MountsBadly (plan : Plan) (table : model.Table) (rose : Bool) (device : Device) (fault : FlashFault) (old : VarData) (new : FlashState) : Type 0 where
  pub now : PartProgress model.Table
  pub did : (TablePerforms plan rose (repair_within plan VarRing (renumber plan VarRing table)) device (renumber plan VarRing table) now × FaultEnds now.end fault new)
      ⊎ (TableUnreads plan rose (repair_within plan VarRing (renumber plan VarRing table)) device (renumber plan VarRing table) now × (fault ≡ Media))
  pub counts : SameDevice new now.device
  pub ring : Ring
  pub ring_is : now.state.var ≡ Some ring
  pub pages : IsVarRing plan now.state.var_pages ring (page_in old new)

-- the ring that its pages give has the numbers in memory
pub record Finds (old : VarData) (old_f : FlashState) (at_least : ℕ) (v : VarData) (new : FlashState) : Type 0 where
  pub ring : memory.Ring
  pub ring_is : v.ring ≡ Some ring
  pub numbers : HasNumbers old_f (var_shape old) at_least ring new

abbrev pub MountEnds : Plan → model.Table → Bool → Device → VarData → Result (Unit {0}) RingFault → VarData → FlashState → Type 0
MountEnds plan table rose device old (Ok done) v new = MountsWell plan table rose device v new
MountEnds plan table rose device old (Err (Flash fault)) v new = MountsBadly plan table rose device fault old new
MountEnds plan table rose device old (Err (BadHead heads)) v new = ⊥
MountEnds plan table rose device old (Err (BadGap page)) v new = ⊥
MountEnds plan table rose device old (Err (BadPage page wanted found)) v new = ⊥
MountEnds plan table rose device old (Err (NoNumber at_least)) v new = ⊥
