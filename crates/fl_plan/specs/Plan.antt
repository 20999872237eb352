-- A table's configuration as the plan of the model.
use Rattle.std.specs.Prelude.{◌≡◌, ℕ, ◌+◌, ◌<◌, ℤ, Option, Some, None, IfSome, List, map}
use Rattle.fl_base.specs.declared.types.RingPlace.{RingPlace}
use Rattle.fl_bitmap.specs.declared.buckets.Buckets.{Buckets}
use Rattle.fl_schema.specs.Types.{column_of}
use Rattle.fl_schema.specs.Form.{key_width}
use Rattle.fl_model.specs.Record.{Plan}
use Rattle.fl_plan.specs.declared.table_config.TableConfig.{TableConfig}

-- what a plan says beside a configuration: its name, and the base and width that mean nothing where it has no buckets
pub record Label : Type 0 where
  pub name : List ℕ
  pub base : ℤ
  pub width : ℕ

abbrev pub label_of : Plan → Label
label_of plan = record { name = plan.name; base = plan.base; width = plan.width }

-- the blocks of a ring; none where there is no ring
abbrev pub blocks_in : Option RingPlace → ℕ
blocks_in None = 0
blocks_in (Some place) = place.blocks

abbrev pub bits_in : Option Buckets → ℕ
bits_in None = 0
bits_in (Some buckets) = buckets.bits

abbrev pub base_in : ℤ → Option Buckets → ℤ
base_in base None = base
base_in base (Some buckets) = buckets.base

abbrev pub width_in : ℕ → Option Buckets → ℕ
width_in width None = width
width_in width (Some buckets) = buckets.width

abbrev pub plan_of_table : Label → TableConfig → Plan
plan_of_table label config = record {
  geometry = config.geometry;
  name = label.name;
  key_bytes = key_width config.key;
  columns = map column_of config.columns.items;
  data_blocks = config.rows.blocks;
  index_blocks = blocks_in config.index;
  var_blocks = blocks_in config.var;
  bits = bits_in config.buckets;
  base = base_in label.base config.buckets;
  width = width_in label.width config.buckets;
  error = config.error;
  blob_limit = config.blob_limit;
  full_index = config.full_index;
  log_blocks = 0;
}

-- .. with a log of so many blocks, which isn't in the configuration
abbrev pub with_log : ℕ → Plan → Plan
with_log blocks plan = record plan { log_blocks = blocks }

-- a ring of so many blocks stands at a block; there is none where it has no blocks
abbrev pub IsRingAt : Option RingPlace → ℕ → ℕ → Type 0
IsRingAt None first blocks = blocks ≡ 0
IsRingAt (Some place) first blocks = (place.first_block ≡ first) × (place.blocks ≡ blocks) × (0 < blocks)

-- a configuration of the plan, whose rings stand one after another
pub record IsConfigOf (config : TableConfig) (plan : Plan) : Type 0 where
  pub is : plan_of_table (label_of plan) config ≡ plan
  pub index : IfSome config.index (λ place. place.first_block ≡ config.rows.first_block + plan.data_blocks)
  pub var : IfSome config.var (λ place. place.first_block ≡ config.rows.first_block + plan.data_blocks + plan.index_blocks)
