-- What a mount leaves on the pages of a table is one that a further mount may be given.
use Rattle.std.specs.Prelude.{ℕ, Bool, List}
use Rattle.fl_flash.specs.Flash.{FlashState}
use Rattle.fl_flash.specs.declared.flash.FlashFault.{FlashFault}
use Rattle.fl_model.specs.Record.{Plan}
use Rattle.fl_model.specs.Table as model
use Rattle.fl_model.specs.Table.{RingName, lose}
use Rattle.fl_model.specs.Work.{Device}
use Rattle.fl_parts.specs.Mountable.{BlobsBefore, RowsBehind}
use Rattle.fl_parts.specs.Pages.{RestsToMount}
use Rattle.fl_table.specs.declared.table.Table.{Table}
use Rattle.fl_parts.specs.Failing.{MountsBadly}
use Rattle.fl_table.specs.Standing.{StandsAsTold}

-- The repair of a ring may give up its last committed page. So that it can still be numbered anew then is a premise.
pub record MountsMayFollow : Type 0 where
  -- a table as a mount left it: on its pages alone is what is left of it without what is in memory
  pub loaded : (KNOTS SLOTS : ℕ) (t : Table KNOTS SLOTS) (f : FlashState) (first : ℕ) (plan : Plan) (table : model.Table) →
      StandsAsTold t f first plan table → RowsBehind plan (lose table) → BlobsBefore (lose table) → RestsToMount f first plan (lose table)
  -- what a mount left that failed
  pub failed : (first : ℕ) (plan : Plan) (rings : List RingName) (table : model.Table) (rose : Bool) (device : Device) (fault : FlashFault) (f : FlashState) →
      (left : MountsBadly first plan rings table rose device fault f) → RowsBehind plan left.now.state → BlobsBefore left.now.state → RestsToMount f first plan left.now.state
