-- The table of a configuration that is salvaged, and how that ends.
use Rattle.std.proofs.Common.{◌≡◌, ℕ, ◌+◌, ◌<◌, ◌⊎◌, inl, inr, Option, Some, None, IfSome, Result, Ok, Err, IsErr, List, [], ◌∙◌, subst, rules}
use Rattle.std.specs.List.{slice_get}
use Rattle.std.proofs.lemmas.Option.{none-some}
use Rattle.fl_base.specs.Causes.{Appends, AppendsFront}
use Rattle.fl_base.proofs.Appended.{appends-none}
use Rattle.fl_image.specs.declared.status.ToolStatus.{ToolStatus}
use Rattle.fl_image.specs.declared.status.ToolStatus.TheVariants.{Done, InputRead, OutWrite, InputLong, NoMemory, NotImage, Device, BadImage, NoTable, BadInput, Unsound}
use Rattle.fl_model.specs.Record.{Plan}
use Rattle.fl_model.proofs.Names.{none-more}
use Rattle.fl_words.specs.Config.{Lines}
use Rattle.fl_salvage.specs.Ends.{AtEnds, EndsOf, SalvageEnds, TableEnds, Writes, form_at}
use Rattle.fl_salvage.specs.Given.{IsConfigured, IsOfConfig, IsUnconfigured}
use Rattle.fl_salvage.specs.Text.{Form}
use Rattle.fl_salvage.specs.declared.fault.SalvageFault.{SalvageFault}
use Rattle.fl_salvage.specs.declared.passed_over.PassedOver.{PassedOver}

-- ---- the table with a name

pub if-some : {X : Type 0} (P : X → Type 0) (o : Option X) (x : X) → o ≡ Some x → IfSome o P → P x
if-some P None x is holds = absurd (none-some x is)
if-some P (Some y) x is holds =
    let same : y ≡ x = cc in
    subst P same holds

-- none of the tables before has the name, nor has this one
pub others-more : (plans : List Plan) (name own : List ℕ) (at : ℕ) → ((i : ℕ) (plan : Plan) → i < at → slice_get plans i ≡ Some plan → plan.name ≡ name → ⊥)
    → IfSome (slice_get plans at) (λ plan. own ≡ plan.name) → (own ≡ name → ⊥)
    → (i : ℕ) (plan : Plan) → i < at + 1 → slice_get plans i ≡ Some plan → plan.name ≡ name → ⊥
others-more plans name own at others is different =
    none-more (λ (p : Plan). p.name ≡ name) plans at others (λ plan here named. different (if-some (λ (p : Plan). own ≡ p.name) (slice_get plans at) plan here is ∙ named))

-- ---- how it ends

-- nothing was written, or a front
pub err-ends : (form : Form) (bytes : List ℕ) (told told_now : Option (List ℕ)) (result : Result PassedOver SalvageFault) → IsErr result → Appends told told_now [] ⊎ Writes form bytes (AppendsFront told told_now) → TableEnds form bytes told told_now result
err-ends form bytes told told_now (Err e) is ends = ends
err-ends form bytes told told_now (Ok passed) is ends = absurd (search (rules, is))

-- no configuration was found, and nothing was done
pub unconfigured-ends : (bytes : List ℕ) (given : Option (List ℕ)) (name : List ℕ) (told : Option (List ℕ)) (passed : PassedOver) (status : ToolStatus) → IsOfConfig status → IsUnconfigured bytes given status → SalvageEnds bytes given name told told passed status
unconfigured-ends bytes given name told passed NotImage of none = (none, appends-none told)
unconfigured-ends bytes given name told passed InputRead of none = (none, appends-none told)
unconfigured-ends bytes given name told passed InputLong of none = (none, appends-none told)
unconfigured-ends bytes given name told passed Device of none = inl (appends-none told)
unconfigured-ends bytes given name told passed Done of none = absurd none
unconfigured-ends bytes given name told passed OutWrite of none = absurd none
unconfigured-ends bytes given name told passed NoMemory of none = absurd none
unconfigured-ends bytes given name told passed NoTable of none = absurd none
unconfigured-ends bytes given name told passed Unsound of none = absurd none
unconfigured-ends bytes given name told passed (BadImage table) of none = absurd none
unconfigured-ends bytes given name told passed (BadInput line) of none = absurd none

-- the table was found
pub table-ends : (bytes : List ℕ) (given : Option (List ℕ)) (name : List ℕ) (told told_now : Option (List ℕ)) (passed : PassedOver) (lines : Lines) (place : ℕ) (plan : Plan) (status : ToolStatus)
    → IsConfigured bytes given lines → slice_get lines.plans place ≡ Some plan → plan.name ≡ name → AtEnds (form_at lines.plans place plan) bytes told told_now passed status → SalvageEnds bytes given name told told_now passed status
table-ends bytes given name told told_now passed lines place plan status configured is named ends = by_status status ends
  where
    of : (s : ToolStatus) → AtEnds (form_at lines.plans place plan) bytes told told_now passed s → EndsOf bytes given name told told_now passed s
    of s e = record { lines = lines; configured = configured; place = place; plan = plan; plan_is = is; named = named; holds = e }

    by_status : (s : ToolStatus) → AtEnds (form_at lines.plans place plan) bytes told told_now passed s → SalvageEnds bytes given name told told_now passed s
    by_status Done e = of Done e
    by_status OutWrite e = of OutWrite e
    by_status NoMemory e = inr (of NoMemory e)
    by_status Device e = inr (of Device e)
    by_status NotImage e = absurd e
    by_status NoTable e = absurd e
    by_status InputRead e = absurd e
    by_status InputLong e = absurd e
    by_status Unsound e = absurd e
    by_status (BadImage table) e = absurd e
    by_status (BadInput line) e = absurd e
