-- What a run replies is determined, but for the numbers of reads that `cost` tells.
use Rattle.std.specs.Prelude.{◌≡◌, None, List, map}
use Rattle.std.specs.List.{AllByRecursion}
use Rattle.fl_model.specs.Record.{Config}
use Rattle.fl_words.specs.Reply as reply
use Rattle.fl_words.specs.Reply.{Reply}
use Rattle.fl_machine.specs.Machine.{Machine, Cost, NothingYet, OfGet, OfScan}
use Rattle.fl_machine.specs.Step.{Moment}
use Rattle.fl_machine.specs.Run.{Run, end_of, commands_of, risen_in}
use Rattle.fl_machine.specs.Plain.{plain_run}

-- a cost, a reply and a state with no number of reads in them
abbrev pub without_reads : Cost → Cost
without_reads NothingYet = NothingYet
without_reads (OfGet reads limit) = OfGet 0 limit
without_reads (OfScan reads) = OfScan 0

abbrev pub reply_without_reads : Reply → Reply
reply_without_reads (reply.CostGet reads limit) = reply.CostGet 0 limit
reply_without_reads (reply.CostScan reads) = reply.CostScan 0
reply_without_reads r = r

abbrev pub state_without_reads : Machine → Machine
state_without_reads machine = record machine { cost = without_reads machine.cost }

-- what each moment of a run replies
abbrev pub replies_of : List Moment → List (List Reply)
replies_of moments = map (λ moment. map reply_without_reads moment.replies) moments

-- no operation of the moment failed
abbrev pub IsWhole : Moment → Type 0
IsWhole moment = moment.last ≡ None

-- two runs from a state reply the same and end in the same state, and no operation of the first fails
pub record SameRuns (old : Machine) (moments others : List Moment) : Type 0 where
  pub replies : replies_of moments ≡ replies_of others
  pub ends : state_without_reads (end_of old moments) ≡ state_without_reads (end_of old others)
  pub whole : AllByRecursion IsWhole moments

-- Where no cut falls into an operation of the plain machine, and the medium's faults rise in no moment of a run, the run
-- is that of the plain machine.
abbrev pub IsDetermined : Type 0
IsDetermined =
    (config : Config) (old : Machine) (moments : List Moment) →
    Run config old moments → risen_in moments ≡ 0 → AllByRecursion IsWhole (plain_run config old (commands_of moments)) →
    SameRuns old moments (plain_run config old (commands_of moments))
