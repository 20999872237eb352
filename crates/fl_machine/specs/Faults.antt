-- Replies that tell of a fault of the medium.
use Rattle.std.specs.Prelude.{ℕ, ◌≤◌, Bool, true, false, List, count_by, sum_by}
use Rattle.fl_model.specs.Record.{Config}
use Rattle.fl_words.specs.Reply as reply
use Rattle.fl_words.specs.Reply.{Reply}
use Rattle.fl_machine.specs.Machine.{Machine}
use Rattle.fl_machine.specs.Step.{Moment}
use Rattle.fl_machine.specs.Run.{Run, risen_in}

abbrev pub is_fault : Reply → Bool
is_fault reply.DeviceFault = true
is_fault reply.ReadFault = true
is_fault _ = false

-- so many replies of a run tell of a fault
abbrev pub faults_told : List Moment → ℕ
faults_told moments = sum_by (λ moment. count_by is_fault moment.replies) moments

-- No more of them than there are moments in which the medium's faults rose.
abbrev pub FaultsHaveCauses : Type 0
FaultsHaveCauses = (config : Config) (old : Machine) (moments : List Moment) → Run config old moments → faults_told moments ≤ risen_in moments
