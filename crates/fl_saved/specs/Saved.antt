-- What a salvage writes of a table that an image stands for is the export of all its records.
use Rattle.std.specs.Prelude.{◌≡◌, ℕ, ◌≤◌, false, Option, Some, List, length, slice_get}
use Rattle.fl_base.specs.Causes.{Appends}
use Rattle.fl_base.specs.declared.types.KeyRange.{KeyRange}
use Rattle.fl_image.specs.Header.{IsAccepted, IsMade}
use Rattle.fl_image.specs.declared.status.ToolStatus.TheVariants.{Done}
use Rattle.fl_model.specs.Image.{IsTableImage, medium_len}
use Rattle.fl_model.specs.Record.{Plan, Config, key_limit}
use Rattle.fl_model.specs.Table.{Table, DataRing, VarRing, is_dirty}
use Rattle.fl_salvage.specs.Ends.{SalvageEnds, form_at}
use Rattle.fl_salvage.specs.Pages.{IsInOrder, numbers_at, passed_at}
use Rattle.fl_salvage.specs.Text.{salvaged_text}
use Rattle.fl_salvage.specs.declared.passed_over.PassedOver.{PassedOver}
use Rattle.fl_words.specs.Config.{Lines}
use Rattle.fl_words.specs.Medium.{IsImage}
use Rattle.fl_saved.specs.Passed.{passed_of}
use Rattle.fl_saved.specs.ShortBlobs.{HasShortBlobs}
use Rattle.fl_export.specs.Text.{table_text}

-- the bytes stand for the table at a place among those that accepted lines configure
pub record StandsFor (lines : Lines) (bytes : List ℕ) (place : ℕ) (plan : Plan) (table : Table) : Type 0 where
  pub config : Config
  pub accepted : IsAccepted lines
  pub device_is : lines.device ≡ Some config.geometry
  pub plans_are : lines.plans ≡ config.plans
  pub plan_is : slice_get lines.plans place ≡ Some plan
  pub size : length bytes ≡ medium_len config
  pub image : IsTableImage config bytes place plan table

-- neither its data ring nor its ring of variable data has a block that waits for its erase; such a block may hold rows and blobs that the table has given up
pub record IsErased (table : Table) : Type 0 where
  pub rows : is_dirty DataRing table ≡ false
  pub var : is_dirty VarRing table ≡ false

-- the range has each key that a row of the plan can hold
abbrev pub HasAllKeys : Plan → KeyRange → Type 0
HasAllKeys plan range = (range.low ≡ 0) × (key_limit plan ≤ range.high)

-- where a salvage is done over the image of these tables: one of them has the name, the text of all its records was written, and the pages
-- that were passed over were counted
pub record IsSaved (config : Config) (tables : List Table) (name : List ℕ) (told told_now : Option (List ℕ)) (passed : PassedOver) : Type 0 where
  pub place : ℕ
  pub plan : Plan
  pub table : Table
  pub plan_is : slice_get config.plans place ≡ Some plan
  pub table_is : slice_get tables place ≡ Some table
  pub named : plan.name ≡ name
  pub wrote : (range : KeyRange) → HasAllKeys plan range → Appends told told_now (table_text plan table range)
  pub counted : passed ≡ passed_of table.rows

-- a table with the name is one for which the law holds
abbrev pub IsUndamaged : Config → List Table → List ℕ → Type 0
IsUndamaged config tables name =
    (place : ℕ) (plan : Plan) (table : Table) → slice_get config.plans place ≡ Some plan → slice_get tables place ≡ Some table → plan.name ≡ name →
    IsErased table × HasShortBlobs plan.blob_limit table

pub record SavedAsExported : Type 0 where
  -- the text that a salvage writes is that of the export
  pub text : (lines : Lines) (bytes : List ℕ) (place : ℕ) (plan : Plan) (table : Table) (range : KeyRange) (numbers : List ℕ) →
      StandsFor lines bytes place plan table → IsErased table → HasShortBlobs plan.blob_limit table → HasAllKeys plan range →
      IsInOrder (numbers_at (form_at lines.plans place plan).layout (form_at lines.plans place plan).rows bytes (form_at lines.plans place plan).rows.pages) numbers →
      salvaged_text (form_at lines.plans place plan) bytes numbers ≡ table_text plan table range
  -- .. and it passes over the void pages of the data ring and the torn one, and no others
  pub passed : (lines : Lines) (bytes : List ℕ) (place : ℕ) (plan : Plan) (table : Table) → StandsFor lines bytes place plan table → IsErased table →
      passed_at (form_at lines.plans place plan).layout (form_at lines.plans place plan).rows bytes (form_at lines.plans place plan).rows.pages ≡ passed_of table.rows
  -- so this is what a salvage has written and counted where it is done
  pub done : (config : Config) (bytes : List ℕ) (tables : List Table) (given : Option (List ℕ)) (name : List ℕ) (told told_now : Option (List ℕ)) (passed : PassedOver) →
      IsMade config → IsImage config bytes tables → IsUndamaged config tables name → SalvageEnds bytes given name told told_now passed Done → IsSaved config tables name told told_now passed
