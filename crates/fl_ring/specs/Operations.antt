-- The operations of a seal and of a repair, and what each makes of the ring.
use Rattle.std.specs.Prelude.{List, [], ◌∷◌, ◌++◌, ℕ, if◌then◌else◌}
use Rattle.fl_model.specs.Work.{Kind, Body, Mark, VoidMark, Erase}
use Rattle.fl_ring.specs.Ring.{Shape, RingState, begun, sealed, voided, unerased, erased}

-- where `body` is that of the page to be sealed
abbrev pub change : Shape → List ℕ → Kind → RingState → RingState
change r body Body s = begun s
change r body Mark s = sealed r s body
change r body VoidMark s = voided r s
change r body Erase s = erased s

-- body, mark, and an erase where the oldest block goes
abbrev pub seal_kinds : Shape → RingState → List ℕ → List Kind
seal_kinds r s body = Body ∷ Mark ∷ (if (sealed r s body).dirty then Erase ∷ [] else [])

-- a torn page is given up, and then a block that waits for its erase is erased
abbrev pub repair_kinds : Shape → RingState → List Kind
repair_kinds r s = (if s.torn then VoidMark ∷ [] else []) ++ (if (unerased r s).dirty then Erase ∷ [] else [])
