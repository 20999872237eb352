-- A table that is mounted and goes on, and what is left of one where the medium fails.
use Rattle.std.specs.Prelude.{◌≡◌, ℕ, IsTrue, true, None}
use Rattle.fl_flash.specs.Flash.{FlashState}
use Rattle.fl_model.specs.Puts.{TablePuts}
use Rattle.fl_model.specs.Record.{Record, Plan}
use Rattle.fl_model.specs.Table.{Table, table_seals}
use Rattle.fl_model.specs.Within.{TablePerforms, seals_within}
use Rattle.fl_model.specs.Work.{Device, PartProgress, Whole}
use Rattle.fl_frame.specs.Device.{SameDevice}
use Rattle.fl_rlc.specs.Logged.{Stands}
use Rattle.fl_rlc.specs.declared.table.LoggedTable.{LoggedTable}

-- a table that is mounted over a flash that tells its bytes, with the power on and no cut armed
pub record Works (t : LoggedTable 64 64) (f : FlashState) (first : ℕ) (plan : Plan) (table : Table) : Type 0 where
  pub stands : Stands t f first plan table
  pub told : IsTrue f.media.tells
  pub power : f.is_on ≡ true
  pub device : Device
  pub counts : SameDevice f device
  pub unarmed : device.armed ≡ None

-- One of the operations of some work on a table failed, while no cut was armed. This is left of the table.
pub record FailsIn (Did : Device → PartProgress Table → Type 0) (left : Table) : Type 0 where
  pub device : Device
  pub unarmed : device.armed ≡ None
  pub now : PartProgress Table
  pub did : Did device now
  pub failed : now.end ≡ Whole → ⊥
  pub left_is : left ≡ now.state

-- .. in the put of a record that isn't refused, and in a flush
abbrev pub FailsInPut : Plan → Record → Table → Table → Type 0
FailsInPut plan item table left = FailsIn (λ device now. TablePuts plan true item device table now) left

abbrev pub FailsInFlush : Plan → Table → Table → Type 0
FailsInFlush plan table left = FailsIn (λ device now. TablePerforms plan true (seals_within plan (table_seals plan table) table) device table now) left
