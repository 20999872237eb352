-- How a plan ends, by the text that is read.
use Rattle.std.specs.Prelude.{◌≡◌, ℕ, ◌<◌, ◌≤◌, Option, Some, Ok, List, [], length, drop}
use Rattle.fl_base.specs.Causes.{Appends, AppendsFront}
use Rattle.fl_model.specs.Record.{Config}
use Rattle.fl_sizing.specs.Lines.{RefusesText, configured_in}
use Rattle.fl_sizing.specs.Text.{plan_text}
use Rattle.fl_sizing.specs.declared.end.PlanEnd.{PlanEnd}
use Rattle.fl_sizing.specs.declared.end.PlanStatus.{PlanStatus}
use Rattle.fl_sizing.specs.declared.end.PlanStatus.TheVariants as status

-- a script of this text has a configuration, and what is written is the figures of its tables
pub record IsPlanOf (knots : ℕ) (interval : Option ℕ) (text written : List ℕ) : Type 0 where
  pub config : Config
  pub configured : configured_in knots text ≡ Ok config
  pub figures : written ≡ plan_text interval config.geometry config.plans

-- why no configuration is read
abbrev pub RefusesAs : List ℕ → PlanEnd → PlanStatus → Type 0
RefusesAs text end (status.Line n) = RefusesText text end
RefusesAs text end (status.Config n) = RefusesText text end
RefusesAs text end status.InputLong = 65536 < length text
RefusesAs text end status.InputRead = Unit {0}
RefusesAs text end status.NoMemory = Unit {0}
RefusesAs text end status.Done = ⊥
RefusesAs text end status.OutWrite = ⊥

abbrev pub Refuses : List ℕ → PlanEnd → Type 0
Refuses text end = RefusesAs text end end.status

-- figures are written, or a front of them where the sink fails, or nothing
abbrev pub Writes : List ℕ → Option (List ℕ) → Option (List ℕ) → PlanStatus → Type 0
Writes figures told told_now status.Done = Appends told told_now figures
Writes figures told told_now status.OutWrite = AppendsFront told told_now figures
Writes figures told told_now status.NoMemory = Appends told told_now []
Writes figures told told_now other = ⊥

-- the figures are written; or a front of them, where the sink fails; or nothing, and why
abbrev pub EndsAs : ℕ → Option ℕ → List ℕ → Option (List ℕ) → Option (List ℕ) → PlanEnd → PlanStatus → Type 0
EndsAs knots interval text told told_now end status.Done = (written : List ℕ) × IsPlanOf knots interval text written × Appends told told_now written
EndsAs knots interval text told told_now end status.OutWrite = (written : List ℕ) × IsPlanOf knots interval text written × AppendsFront told told_now written
EndsAs knots interval text told told_now end (status.Line n) = RefusesText text end × Appends told told_now []
EndsAs knots interval text told told_now end (status.Config n) = RefusesText text end × Appends told told_now []
EndsAs knots interval text told told_now end status.InputLong = (65536 < length text) × Appends told told_now []
EndsAs knots interval text told told_now end status.InputRead = Appends told told_now []
EndsAs knots interval text told told_now end status.NoMemory = Appends told told_now []

abbrev pub PlanEnds : ℕ → Option ℕ → List ℕ → Option (List ℕ) → Option (List ℕ) → PlanEnd → Type 0
PlanEnds knots interval text told told_now end = EndsAs knots interval text told told_now end end.status

-- at most so many bytes of the text were taken
abbrev pub TakesAtMost : ℕ → List ℕ → Option (List ℕ) → Type 0
TakesAtMost most text left_now = (taken : ℕ) × (taken ≤ most) × (left_now ≡ Some (drop taken text))
