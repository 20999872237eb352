-- A put of an accepted record: the seals that make room for it, then it joins, and then those of the pages that its blob fills, or
-- of the log's page that has it too.
use Rattle.std.specs.Prelude.{◌≡◌, ℕ, Bool, List}
use Rattle.fl_model.specs.Record.{Record, Plan}
use Rattle.fl_model.specs.Table.{Table, make_room_seals, join_seals, put_joined}
use Rattle.fl_model.specs.Work.{Operation, Device, Progress, Outcome, Finished, CutShort, Failed, Performs, operations_of, changed_at, PartEnd, Whole, CutIn, FailedIn, PartProgress}
use Rattle.fl_model.specs.Within.{seals_within, TablePerforms}

-- the operations before the record joins, and after it has joined
abbrev pub room_operations : Plan → ℕ → Table → List Operation
room_operations plan place table = operations_of plan place (make_room_seals plan table) table

abbrev pub join_operations : Plan → ℕ → Record → Table → List Operation
join_operations plan place item table =
    let joined = put_joined plan item table in operations_of plan place (join_seals plan joined) joined

-- the seals before the record joins ended; the put goes on only where they are all done
abbrev pub PutGoesOn : Outcome → Progress → Progress → Type 0 → Type 0
PutGoesOn Finished mid end others = others
PutGoesOn (CutShort before) mid end others = end ≡ mid
PutGoesOn (Failed before) mid end others = end ≡ mid

abbrev pub Puts : List Plan → Bool → Plan → ℕ → Record → Table → Device → List Table → Progress → Type 0
Puts plans rose plan place item table device tables end =
    (mid : Progress) × Performs plans rose (room_operations plan place table) device tables mid
    × PutGoesOn mid.outcome mid end
    (Performs plans rose (join_operations plan place item table) mid.device (changed_at place (put_joined plan item) tables) end)

-- The same of one table.
abbrev pub TablePutGoesOn : PartEnd Table → PartProgress Table → PartProgress Table → Type 0 → Type 0
TablePutGoesOn Whole mid now others = others
TablePutGoesOn (CutIn before) mid now others = now ≡ mid
TablePutGoesOn (FailedIn before) mid now others = now ≡ mid

abbrev pub TablePuts : Plan → Bool → Record → Device → Table → PartProgress Table → Type 0
TablePuts plan rose item device table now =
    let joined = put_joined plan item table in
    (mid : PartProgress Table) × TablePerforms plan rose (seals_within plan (make_room_seals plan table) table) device table mid
    × TablePutGoesOn mid.end mid now
    (TablePerforms plan rose (seals_within plan (join_seals plan joined) joined) mid.device joined now)
