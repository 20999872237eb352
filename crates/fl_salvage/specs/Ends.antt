-- How a salvage ends, by its status.
use Rattle.std.specs.Prelude.{◌≡◌, ◌⊎◌, ℕ, ◌+◌, ◌*◌, Option, Some, None, Result, Ok, Err, List, [], slice_get, take, sum_by, if◌then◌else◌}
use Rattle.fl_base.specs.Causes.{Appends, AppendsFront}
use Rattle.fl_image.specs.declared.status.ToolStatus.{ToolStatus}
use Rattle.fl_image.specs.declared.status.ToolStatus.TheVariants.{Done, InputRead, OutWrite, InputLong, NoMemory, NotImage, Device, BadImage, NoTable, BadInput, Unsound}
use Rattle.fl_model.specs.Record.{Plan, blocks_of, has_var, row_layout}
use Rattle.fl_words.specs.Config.{Lines}
use Rattle.fl_salvage.specs.Given.{IsConfigured, IsUnconfigured}
use Rattle.fl_salvage.specs.Pages.{IsInOrder, numbers_at, passed_at}
use Rattle.fl_salvage.specs.Text.{Form, salvaged_text}
use Rattle.fl_salvage.specs.declared.fault.SalvageFault.{SalvageFault}
use Rattle.fl_salvage.specs.declared.passed_over.PassedOver.{PassedOver}

-- the form of the table at a place among the plans, whose rings stand behind those of the tables before it
abbrev pub form_at : List Plan → ℕ → Plan → Form
form_at plans place plan =
    let first = sum_by blocks_of (take place plans) in
    record {
      layout = row_layout plan;
      rows = record { first = first * plan.geometry.block; pages = plan.data_blocks * plan.geometry.block; size = plan.geometry.page };
      var = if has_var plan
          then Some (record { first = (first + plan.data_blocks + plan.index_blocks) * plan.geometry.block; pages = plan.var_blocks * plan.geometry.block; size = plan.geometry.page })
          else None;
      limit = plan.blob_limit;
    }

-- the text of the pages with rows, in the order of their numbers, was written as `Wrote` says
pub record Writes (form : Form) (bytes : List ℕ) (Wrote : List ℕ → Type 0) : Type 0 where
  pub numbers : List ℕ
  pub ordered : IsInOrder (numbers_at form.layout form.rows bytes form.rows.pages) numbers
  pub wrote : Wrote (salvaged_text form bytes numbers)

-- how the salvage of a table ends: all of its text was written, or nothing, or a front
abbrev pub TableEnds : Form → List ℕ → Option (List ℕ) → Option (List ℕ) → Result PassedOver SalvageFault → Type 0
TableEnds form bytes told told_now (Ok passed) = (passed ≡ passed_at form.layout form.rows bytes form.rows.pages) × Writes form bytes (Appends told told_now)
TableEnds form bytes told told_now (Err fault) = Appends told told_now [] ⊎ Writes form bytes (AppendsFront told told_now)

-- the image has a configuration, and `Holds` of the form of the table with the name
pub record IsTableOf (bytes : List ℕ) (given : Option (List ℕ)) (name : List ℕ) (Holds : Form → Type 0) : Type 0 where
  pub lines : Lines
  pub configured : IsConfigured bytes given lines
  pub place : ℕ
  pub plan : Plan
  pub plan_is : slice_get lines.plans place ≡ Some plan
  pub named : plan.name ≡ name
  pub holds : Holds (form_at lines.plans place plan)

-- .. or no table has the name
pub record IsNoTableOf (bytes : List ℕ) (given : Option (List ℕ)) (name : List ℕ) : Type 0 where
  pub lines : Lines
  pub configured : IsConfigured bytes given lines
  pub none : (place : ℕ) (plan : Plan) → slice_get lines.plans place ≡ Some plan → plan.name ≡ name → ⊥

-- How a salvage ends once the table is found. Where it is done all of the text was written, and the pages that were passed over
-- were counted.
abbrev pub AtEnds : Form → List ℕ → Option (List ℕ) → Option (List ℕ) → PassedOver → ToolStatus → Type 0
AtEnds form bytes told told_now passed Done = TableEnds form bytes told told_now (Ok passed)
AtEnds form bytes told told_now passed OutWrite = Appends told told_now [] ⊎ Writes form bytes (AppendsFront told told_now)
AtEnds form bytes told told_now passed NoMemory = Appends told told_now [] ⊎ Writes form bytes (AppendsFront told told_now)
AtEnds form bytes told told_now passed Device = Appends told told_now [] ⊎ Writes form bytes (AppendsFront told told_now)
AtEnds form bytes told told_now passed NotImage = ⊥
AtEnds form bytes told told_now passed NoTable = ⊥
AtEnds form bytes told told_now passed InputRead = ⊥
AtEnds form bytes told told_now passed InputLong = ⊥
AtEnds form bytes told told_now passed Unsound = ⊥
AtEnds form bytes told told_now passed (BadImage table) = ⊥
AtEnds form bytes told told_now passed (BadInput line) = ⊥

-- .. of the table with the name
abbrev pub EndsOf : List ℕ → Option (List ℕ) → List ℕ → Option (List ℕ) → Option (List ℕ) → PassedOver → ToolStatus → Type 0
EndsOf bytes given name told told_now passed status = IsTableOf bytes given name (λ form. AtEnds form bytes told told_now passed status)

-- How the salvage of a table of an image ends. Where it ends before the table is found nothing is written.
abbrev pub SalvageEnds : List ℕ → Option (List ℕ) → List ℕ → Option (List ℕ) → Option (List ℕ) → PassedOver → ToolStatus → Type 0
SalvageEnds bytes given name told told_now passed Done = EndsOf bytes given name told told_now passed Done
SalvageEnds bytes given name told told_now passed OutWrite = EndsOf bytes given name told told_now passed OutWrite
SalvageEnds bytes given name told told_now passed NoMemory = Appends told told_now [] ⊎ EndsOf bytes given name told told_now passed NoMemory
SalvageEnds bytes given name told told_now passed Device = Appends told told_now [] ⊎ EndsOf bytes given name told told_now passed Device
SalvageEnds bytes given name told told_now passed NoTable = IsNoTableOf bytes given name × Appends told told_now []
SalvageEnds bytes given name told told_now passed NotImage = IsUnconfigured bytes given NotImage × Appends told told_now []
SalvageEnds bytes given name told told_now passed InputLong = IsUnconfigured bytes given InputLong × Appends told told_now []
SalvageEnds bytes given name told told_now passed InputRead = IsUnconfigured bytes given InputRead × Appends told told_now []
SalvageEnds bytes given name told told_now passed Unsound = ⊥
SalvageEnds bytes given name told told_now passed (BadImage table) = ⊥
SalvageEnds bytes given name told told_now passed (BadInput line) = ⊥
