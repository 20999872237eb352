-- Laws on the operations of a table.
use Rattle.std.specs.Prelude.{◌≡◌, ℕ, Bool, Some, List, map, slice_get}
use Rattle.fl_model.specs.Record.{Record, Plan}
use Rattle.fl_model.specs.Table.{Table, RingName, put_record, after_seals}
use Rattle.fl_model.specs.Work.{Kind, Device, Performs, operations_of, Whole, PartProgress}
use Rattle.fl_model.specs.Within.{seals_within, at_place, TablePerforms, all_counted, progress_at, TableMountEnd, TableMounts, MountsAlong}
use Rattle.fl_model.specs.Mount.{Turn}
use Rattle.fl_model.specs.Puts.{Puts, TablePuts}

-- What one table performs, all tables perform, and the operations of its seals are the same.
pub record TablesPerform : Type 0 where
  pub performs : (plans : List Plan) (plan : Plan) (place : ℕ) (rose : Bool) (operations : List (RingName × Kind)) (device : Device) (tables : List Table) (table : Table) (now : PartProgress Table) →
      slice_get plans place ≡ Some plan → slice_get tables place ≡ Some table → TablePerforms plan rose operations device table now →
      Performs plans rose (map (at_place place) operations) device tables (progress_at place tables now)
  pub seals : (plan : Plan) (place : ℕ) (rings : List RingName) (table : Table) → operations_of plan place rings table ≡ map (at_place place) (seals_within plan rings table)

-- What one table puts, all tables put.
abbrev pub TablesPut : Type 0
TablesPut =
    (plans : List Plan) (plan : Plan) (place : ℕ) (rose : Bool) (item : Record) (device : Device) (tables : List Table) (table : Table) (now : PartProgress Table) →
    slice_get plans place ≡ Some plan → slice_get tables place ≡ Some table → TablePuts plan rose item device table now →
    Puts plans rose plan place item table device tables (progress_at place tables now)

-- The mount of one table is its part in the mount of all.
abbrev pub TablesMount : Type 0
TablesMount =
    (plans : List Plan) (plan : Plan) (place : ℕ) (rose : Bool) (turns : List Turn) (others : List (ℕ × Turn)) (device : Device) (tables : List Table) (table : Table) (how : TableMountEnd) →
    slice_get plans place ≡ Some plan → slice_get tables place ≡ Some table → TableMounts plan rose turns device table how →
    MountsAlong plans rose place turns others device tables how

-- All operations of seals make these seals, and each is counted once; those of a put leave the table after it.
pub record WorkIsDone : Type 0 where
  pub seals : (plan : Plan) (rings : List RingName) (rose : Bool) (device : Device) (table : Table) (now : PartProgress Table) →
      TablePerforms plan rose (seals_within plan rings table) device table now → now.end ≡ Whole →
      (now.state ≡ after_seals plan rings table) × (now.device ≡ all_counted (λ operation. operation.1) (seals_within plan rings table) device)
  pub put : (plan : Plan) (rose : Bool) (item : Record) (device : Device) (table : Table) (now : PartProgress Table) →
      TablePuts plan rose item device table now → now.end ≡ Whole → now.state ≡ put_record plan item table
