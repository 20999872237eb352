-- How an export ends, by its status.
use Rattle.std.specs.Prelude.{◌≡◌, ◌⊎◌, ℕ, IsTrue, Bool, true, false, None, Some, List, map}
use Rattle.fl_base.specs.Causes.{Rose, Appends, AppendsFront}
use Rattle.fl_base.specs.declared.types.KeyRange.{KeyRange}
use Rattle.fl_image.specs.Header.{IsAccepted}
use Rattle.fl_image.specs.Image.{IsImageOf}
use Rattle.fl_image.specs.declared.status.ToolStatus.{ToolStatus}
use Rattle.fl_image.specs.declared.status.ToolStatus.TheVariants.{Done, OutWrite, NoMemory, NotImage, Device, BadImage, NoTable}
use Rattle.fl_machine.specs.Step.{Located, located_from, all_ready}
use Rattle.fl_model.specs.Mount.{Mounts, Mounted, turns_from}
use Rattle.fl_model.specs.Record.{Plan, Config}
use Rattle.fl_model.specs.Table.{Table, lose}
use Rattle.fl_model.specs.Work.{Progress}
use Rattle.fl_words.specs.Config.{Lines}
use Rattle.fl_words.specs.Medium.{IsImage}
use Rattle.fl_store.specs.MountEnds.{IsUntouched, MountFails, Told}
use Rattle.fl_store.specs.Named.{IsImageOver, IsImageWith}
use Rattle.fl_store.specs.Store.{at_rest}
use Rattle.fl_export.specs.Text.{table_text}

-- ---- the causes of statuses, over any bytes

-- There is no image, or it has no such table; any other status but those of memory and of the device comes where it has.
-- A bad table is one of the image.
abbrev pub StatusFits : List ℕ → List ℕ → ToolStatus → Type 0
StatusFits bytes name NotImage = (lines : Lines) → IsAccepted lines → IsImageOf bytes lines → ⊥
StatusFits bytes name NoTable = IsImageWith bytes name false
StatusFits bytes name Done = IsImageWith bytes name true
StatusFits bytes name OutWrite = IsImageWith bytes name true
StatusFits bytes name (BadImage table) = IsImageOver bytes name table
StatusFits bytes name NoMemory = Unit {0}
StatusFits bytes name Device = Unit {0}
StatusFits bytes name status = ⊥

-- ---- how an export of an image of tables ends

-- The tables were mounted, and so much of the text of the table with the name was written.
pub record Exports (plans : List Plan) (tables : List Table) (name : List ℕ) (range : KeyRange) (told : Told) (Holds : List Table → Type 0) (Wrote : List ℕ → Type 0) : Type 0 where
  pub rose : Bool
  pub risen : IsTrue rose → Rose told.faults told.faults_now
  pub end : Progress
  pub did : Mounts plans rose (turns_from 0 plans) at_rest tables (Mounted end)
  pub holds : Holds (map lose (all_ready plans end.tables))
  pub at : Located
  pub found : located_from 0 plans (all_ready plans end.tables) name ≡ Some at
  pub wrote : Wrote (table_text at.plan at.table range)

-- how it ends over tables of which one has the name: all of the text is written where it is done, and a front of it else
abbrev pub TablesEnd : List Plan → List Table → List ℕ → KeyRange → Told → (List Table → Type 0) → ToolStatus → Type 0
TablesEnd plans tables name range told Holds Done = Exports plans tables name range told Holds (λ text. Appends told.written told.written_now text)
TablesEnd plans tables name range told Holds OutWrite = Exports plans tables name range told Holds (λ text. AppendsFront told.written told.written_now text)
TablesEnd plans tables name range told Holds NoMemory = Exports plans tables name range told Holds (λ text. AppendsFront told.written told.written_now text)
TablesEnd plans tables name range told Holds Device =
    Rose told.faults told.faults_now
    × (MountFails plans tables name told Holds ⊎ Exports plans tables name range told Holds (λ text. AppendsFront told.written told.written_now text))
TablesEnd plans tables name range told Holds status = ⊥

-- how it ends over a medium that stands for tables
abbrev pub ExportEnds : Config → List Table → List ℕ → KeyRange → Told → List ℕ → List ℕ → ToolStatus → Type 0
ExportEnds config tables name range told content content_now NoTable = (located_from 0 config.plans tables name ≡ None) × IsUntouched content content_now told
ExportEnds config tables name range told content content_now NoMemory =
    IsUntouched content content_now told ⊎ TablesEnd config.plans tables name range told (IsImage config content_now) NoMemory
ExportEnds config tables name range told content content_now Device =
    (Rose told.faults told.faults_now × IsUntouched content content_now told) ⊎ TablesEnd config.plans tables name range told (IsImage config content_now) Device
ExportEnds config tables name range told content content_now status = TablesEnd config.plans tables name range told (IsImage config content_now) status
