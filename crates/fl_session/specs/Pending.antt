-- The rows of the tables that no flush has written, and what a status tells of them.
use Rattle.std.specs.Prelude.{◌≡◌, ℕ, ◌==◌, Option, Some, None, List, [], ◌∷◌, map, slice_get, if◌then◌else◌}
use Rattle.fl_model.specs.Record.{Plan, Config}
use Rattle.fl_model.specs.Table.{Table}
use Rattle.fl_machine.specs.Machine.{Machine}
use Rattle.fl_machine.specs.Script.{StandsAfter}
use Rattle.fl_ends.specs.declared.pending.TableRows.{TableRows}
use Rattle.fl_ends.specs.declared.run.Status.{Status}
use Rattle.fl_ends.specs.declared.run.Status.TheVariants.{Done}

-- a table of which so many rows are pending, if any are
abbrev pub rows_of : List ℕ → ℕ → Option TableRows
rows_of name rows = if rows == 0 then None else Some (record { name = name; rows = rows })

-- the table of a plan
abbrev pub pending_of : Option Plan → Option Table → Option TableRows
pending_of (Some plan) (Some table) = rows_of plan.name table.pending
pending_of plan table = None

-- .. and each of the tables, of which a configuration has at most four
abbrev pub pending_in : Config → Machine → List (Option TableRows)
pending_in config m = map (λ place. pending_of (slice_get config.plans place) (slice_get m.tables place)) (0 ∷ 1 ∷ 2 ∷ 3 ∷ [])

-- the state in which a run ended has these pending rows, where its status tells any
abbrev pub TellsPending : Config → Status → Machine → Type 0
TellsPending config (Done pending) m = pending.tables ≡ pending_in config m
TellsPending config status m = Unit {0}

-- the medium stands for the state after the session ended, and the status tells what was pending in it
abbrev pub EndsAt : Config → Status → List ℕ → Machine → Type 0
EndsAt config status content m = StandsAfter config (Some content) m × TellsPending config status m
