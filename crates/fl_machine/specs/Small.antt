-- How small a configuration is that is accepted, and how few pages a command reads then, whatever the script.
use Rattle.std.specs.Prelude.{◌≡◌, ℕ, ◌*◌, ◌^◌, ◌≤◌, Some, List, slice_get}
use Rattle.std.specs.List.{AllByRecursion}
use Rattle.fl_model.specs.Record.{Plan, Config, blocks_of}
use Rattle.fl_model.specs.Table.{Table}
use Rattle.fl_model.specs.Facts.{IsTable}
use Rattle.fl_machine.specs.Reads.{pages_in}

-- the pages and the error of a table
pub record IsSmallPlan (plan : Plan) : Type 0 where
  pub pages : blocks_of plan * plan.geometry.block ≤ 65536
  pub error : plan.error ≤ 255

-- .. of all its tables
pub record IsSmall (config : Config) : Type 0 where
  pub pages : pages_in config ≤ 65536
  pub plans : AllByRecursion IsSmallPlan config.plans

-- each table is one of its plan
abbrev pub AreTables : List Plan → List Table → Type 0
AreTables plans tables = (place : ℕ) (plan : Plan) (table : Table) → slice_get plans place ≡ Some plan → slice_get tables place ≡ Some table → IsTable plan table

-- the pages that a command reads at most
abbrev pub most_of_a_command : ℕ
most_of_a_command = 2 ^ 19
