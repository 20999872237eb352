-- The words of a table line, and what the table is that they make.
use Rattle.std.specs.Prelude.{◌≡◌, ℕ, ◌^◌, ◌<◌, ◌≤◌, false, IsTrue, ◌||◌, ◌==◌, ◌⊎◌, Option, Some, None, unwrap_or}
use Rattle.fl_base.specs.declared.types.Geometry.{Geometry}
use Rattle.fl_bitmap.specs.declared.buckets.Buckets.{Buckets}
use Rattle.fl_words.specs.Command.{TableLine}
use Rattle.fl_words.specs.Config.{plan_of, bad_blob_limit}
use Rattle.fl_plan.specs.declared.table_config.TableConfig.{TableConfig}
use Rattle.fl_plan.specs.Refusal.{blobs_misfit}
use Rattle.fl_plan.specs.Limits.{IsWithinLimits}
use Rattle.fl_config.specs.Label.{LineLabel, plan_with}
use Rattle.fl_config.specs.Places.{StandsFrom}
use Rattle.fl_config.specs.declared.words.TableWords.{TableWords}

abbrev pub line_of : TableWords → TableLine
line_of words = record {
  name = words.name;
  key = words.key;
  columns = words.columns.now;
  data_blocks = words.rows;
  index_blocks = words.index;
  var_blocks = words.var;
  bits = words.bits;
  base = words.base;
  width = words.width;
  error = words.error;
  blob_limit = words.blob;
  full_index = words.full;
  log_blocks = words.log;
}

-- the numbers of a line that is not refused for one of them
abbrev pub IsRingOrNone : ℕ → Type 0
IsRingOrNone blocks = (blocks ≡ 0) ⊎ ((3 ≤ blocks) × (blocks ≤ 16384))

pub record AreWithin (geometry : Geometry) (words : TableWords) : Type 0 where
  pub rows : (3 ≤ words.rows) × (words.rows ≤ 16384)
  pub index : IsRingOrNone words.index
  pub var : IsRingOrNone words.var
  pub bits : IsTrue ((words.bits == 0) || (words.bits == 8) || (words.bits == 16) || (words.bits == 64))
  pub indexed : words.bits ≡ 0 → words.index ≡ 0
  pub some_width : 1 ≤ words.width
  pub signed_width : words.width < 2 ^ 63
  pub error : words.error ≤ 255
  pub blob : words.blob ≤ 1500
  pub room : blobs_misfit geometry words.var words.blob ≡ false

-- the buckets of a line
abbrev pub AreBucketsIn : Option Buckets → TableLine → Type 0
AreBucketsIn None line = line.bits ≡ 0
AreBucketsIn (Some buckets) line = (buckets.bits ≡ line.bits) × (buckets.base ≡ line.base) × (buckets.width ≡ line.width)

-- what a line says beside the configuration of its table
abbrev pub label_in : TableLine → LineLabel
label_in line = record { name = line.name; base = line.base; width = line.width; log_blocks = unwrap_or line.log_blocks 0 }

-- the table of a line, with its rings from a block on
pub record IsTableOf (geometry : Geometry) (first : ℕ) (line : TableLine) (config : TableConfig) : Type 0 where
  pub plan : plan_with (label_in line) config ≡ plan_of geometry line
  pub stands : StandsFrom first config
  pub limits : IsWithinLimits config
  pub blob : bad_blob_limit (plan_of geometry line) ≡ false
