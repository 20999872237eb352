-- The words of the command line that name a plan.
use Rattle.std.specs.Prelude.{ℕ, nat_lt, ◌||◌, ◌==◌, Option, Some, None, Result, Ok, Err, List, [], ◌∷◌, codes, if◌then◌else◌}
use Rattle.fl_model.specs.Record.{bytes_equal}
use Rattle.fl_words.specs.Grammar.{LineFault, number}
use Rattle.fl_sizing.specs.declared.words.PlanJob.{PlanJob}

-- with so many seconds between two rows
abbrev pub interval_named : Result ℕ LineFault → Option PlanJob
interval_named (Ok seconds) = if (seconds == 0) || nat_lt 1000000 seconds then None else Some (record { interval = Some seconds })
interval_named (Err fault) = None

-- `plan`, and perhaps the seconds between two rows, from 1 to 1,000,000
abbrev pub plan_named : List (List ℕ) → Option PlanJob
plan_named (word ∷ []) = if bytes_equal word (codes "plan") then Some (record { interval = None }) else None
plan_named (word ∷ seconds ∷ []) = if bytes_equal word (codes "plan") then interval_named (number seconds) else None
plan_named words = None
