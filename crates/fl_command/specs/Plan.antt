-- How a plan ends: just as the call that does it says.
use Rattle.std.specs.Prelude.{◌≡◌, ℕ, ◌≤◌, Option, Some, List}
use Rattle.fl_base.specs.Causes.{Rose}
use Rattle.fl_command.specs.declared.exit.Exit.{Exit}
use Rattle.fl_command.specs.declared.exit.Exit.TheVariants as ending
use Rattle.fl_reason.specs.declared.text.Reason.{Reason}
use Rattle.fl_sizing.specs.Ends.{PlanEnds, TakesAtMost}
use Rattle.fl_sizing.specs.declared.end.PlanEnd.{PlanEnd}
use Rattle.fl_sizing.specs.declared.end.PlanStatus.TheVariants.{InputRead, OutWrite}

-- what is written of the tables of a text, or why a line of it is refused
pub record Plans (interval : Option ℕ) (left : Option (List ℕ)) (input_faults : ℕ) (written : Option (List ℕ)) (out_faults : ℕ)
    (left_now : Option (List ℕ)) (input_faults_now : ℕ) (written_now : Option (List ℕ)) (out_faults_now : ℕ) (end : PlanEnd) : Type 0 where
  pub ends : (knots : ℕ) (text : List ℕ) → left ≡ Some text → PlanEnds knots interval text written written_now end
  pub taken : (text : List ℕ) → left ≡ Some text → TakesAtMost 65537 text left_now
  pub read : end.status ≡ InputRead → Rose input_faults input_faults_now
  pub write : end.status ≡ OutWrite → Rose out_faults out_faults_now
  pub later : (input_faults ≤ input_faults_now) × (out_faults ≤ out_faults_now)

-- the program ends by a plan whose end is so, and tells its reason
abbrev pub PlanEndsAs : Option ℕ → Option (List ℕ) → ℕ → Option (List ℕ) → ℕ → Option (List ℕ) → ℕ → Option (List ℕ) → ℕ → Exit → Option Reason → Type 0
PlanEndsAs interval left input_faults written out_faults left_now input_faults_now written_now out_faults_now exit told =
    (end : PlanEnd) × (exit ≡ ending.Plan end.status) × (told ≡ end.reason)
    × Plans interval left input_faults written out_faults left_now input_faults_now written_now out_faults_now end
