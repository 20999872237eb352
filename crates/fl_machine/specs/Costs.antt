-- What `cost` replies, where the reads of each command are those that it may make.
use Rattle.std.specs.Prelude.{◌≡◌, ℕ, Option, Some, None, IfSome, is_some, List, [], ◌∷◌, if◌then◌else◌}
use Rattle.fl_model.specs.Record.{Config}
use Rattle.fl_model.specs.Spline.{lookup_limit, lookup_reads}
use Rattle.fl_words.specs.Command as command
use Rattle.fl_words.specs.Command.{Command}
use Rattle.fl_machine.specs.Machine.{Machine, Cost, OfGet}
use Rattle.fl_machine.specs.Step.{Moment, Located, located, cost_reply}
use Rattle.fl_machine.specs.Run.{Run}
use Rattle.fl_machine.specs.Reads.{has_reads, is_unread, RunExact}
use Rattle.fl_machine.specs.AllReads.{RunReads}

-- the table on which a command is executed
abbrev pub executed_on : Config → Machine → List ℕ → Option Located
executed_on config old name = if old.mounted then located config old name else None

-- The cost of an executed get is known where its key is covered and not pending, and no read failed.
abbrev pub cost_of_get : Config → Moment → ℕ → Option Cost → Option Located → Option Cost
cost_of_get config moment key before None = before
cost_of_get config moment key before (Some at) =
    if is_unread moment then None
    else if has_reads config.knots at.plan at.table key
    then Some (OfGet (lookup_reads config.knots at.plan at.table key) (lookup_limit config.knots at.plan at.table key))
    else None

-- the cost that is known after a moment, if it is
abbrev pub cost_after : Config → Machine → Moment → Option Cost → Command → Option Cost
cost_after config old moment before (command.Get name key) = cost_of_get config moment key before (executed_on config old name)
cost_after config old moment before (command.Scan name range span) = if is_some (executed_on config old name) then None else before
cost_after config old moment before c = before

-- each `cost` replies the cost that is known then
abbrev pub TellsCosts : Config → Option Cost → Machine → List Moment → Type 0
TellsCosts config known old [] = Unit {0}
TellsCosts config known old (moment ∷ moments) =
    (moment.command ≡ command.Cost → IfSome known (λ cost. moment.replies ≡ cost_reply cost ∷ []))
    × TellsCosts config (cost_after config old moment known moment.command) moment.after moments

-- In each run in which the commands read as many pages as they may.
abbrev pub CostsAreTold : Type 0
CostsAreTold = (config : Config) (old : Machine) (moments : List Moment) → Run config old moments → RunReads config old moments → TellsCosts config (Some old.cost) old moments

-- In each run in which the gets read as many pages as is promised.
abbrev pub PromisedCostsAreTold : Type 0
PromisedCostsAreTold =
    (config : Config) (old : Machine) (moments : List Moment) → Run config old moments → RunExact config old moments → TellsCosts config (Some old.cost) old moments
