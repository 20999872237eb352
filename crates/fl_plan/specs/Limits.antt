-- What holds of a table's configuration that isn't refused.
use Rattle.std.specs.Prelude.{◌≡◌, ◌%◌, ◌≤◌, IsSome, IfSome, length}
use Rattle.fl_base.specs.declared.types.Geometry.{Geometry}
use Rattle.fl_base.specs.declared.types.RingPlace.{RingPlace}
use Rattle.fl_plan.specs.declared.table_config.TableConfig.{TableConfig}

pub record IsWithin (geometry : Geometry) : Type 0 where
  pub page_low : 64 ≤ geometry.page
  pub page_high : geometry.page ≤ 4096
  pub page_eights : geometry.page % 8 ≡ 0
  pub block_low : 2 ≤ geometry.block
  pub block_high : geometry.block ≤ 256

abbrev pub IsRingSize : RingPlace → Type 0
IsRingSize place = (3 ≤ place.blocks) × (place.blocks ≤ 16384)

pub record IsWithinLimits (config : TableConfig) : Type 0 where
  pub geometry : IsWithin config.geometry
  pub some_columns : 1 ≤ length config.columns.items
  pub rows : IsRingSize config.rows
  pub index : IfSome config.index IsRingSize
  pub var : IfSome config.var IsRingSize
  pub buckets : IfSome config.index (λ place. IsSome config.buckets)
  pub error : config.error ≤ 255
