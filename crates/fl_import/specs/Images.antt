-- How an import ends over a flash on which the tables of an image lie.
use Rattle.std.specs.Prelude.{◌≡◌, ◌<◌, ◌≤◌, ℕ, false, is_some, Option, Some, List, slice_get}
use Rattle.fl_base.specs.Causes.{Rose}
use Rattle.fl_csv.specs.declared.record.GoneBlobs.{GoneBlobs}
use Rattle.fl_csv.specs.declared.record.LineForm.{LineForm}
use Rattle.fl_flash.specs.Flash.{FlashState}
use Rattle.fl_image.specs.Status.{is_done}
use Rattle.fl_import.specs.declared.job_end.LinesTaken.{LinesTaken}
use Rattle.fl_image.specs.declared.status.ToolStatus.{ToolStatus}
use Rattle.fl_image.specs.declared.status.ToolStatus.TheVariants.{InputRead, OutWrite, Device, BadImage}
use Rattle.fl_model.specs.Record.{Plan}
use Rattle.fl_model.specs.Table.{Table}
use Rattle.fl_store.specs.Tables.{TablesStand}
use Rattle.fl_store.specs.declared.tables.Entry.{Entry}
use Rattle.fl_import.specs.Ends.{Told, TablesEnd}
use Rattle.fl_import.specs.Steps.{IsFormOf, IsOfTable}

-- a status that comes once the table is found
abbrev pub IsOfMounted : ToolStatus → Type 0
IsOfMounted (BadImage table) = Unit {0}
IsOfMounted status = IsOfTable status

-- Why an import ends so, over any bytes: counts of faults before and after, those of the flash, of the source and of the sink.
pub record HasCauses (tables flash flash_now source source_now sink sink_now : ℕ) (kept : Option ℕ) (status : ToolStatus) : Type 0 where
  pub known : IsOfMounted status
  pub device : status ≡ Device → Rose flash flash_now
  pub bad : (table : ℕ) → status ≡ BadImage table → table < tables
  pub read : status ≡ InputRead → Rose source source_now
  pub write : status ≡ OutWrite → Rose sink sink_now
  pub later : (source ≤ source_now) × (sink ≤ sink_now)
  pub kept_is : is_some kept ≡ is_done status

-- the form of the lines of the table at a place
abbrev pub FormsAt : LineForm → List Plan → ℕ → Type 0
FormsAt form plans at = (plan : Plan) → slice_get plans at ≡ Some plan → IsFormOf form plan

abbrev pub told_of : GoneBlobs → LinesTaken → Option (List ℕ) → Option (List ℕ) → Option (List ℕ) → Told
told_of gone taken told told_now rest = record { gone = gone; taken = taken; written = told; written_now = told_now; left_now = rest }

-- how it ends over a flash: that stands for the tables afterwards
abbrev pub EndsOn : List Plan → List Table → List ℕ → List ℕ → Told → FlashState → FlashState → List Entry → Option ℕ → ToolStatus → Type 0
EndsOn plans tables name text told old new entries kept status = TablesEnd plans tables name text told old.media.faults new.media.faults (TablesStand new (λ i. false) plans entries) kept status
