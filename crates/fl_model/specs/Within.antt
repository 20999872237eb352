-- The operations of one table alone: the ring that each is done to, and its kind.
use Rattle.std.specs.Prelude.{◌≡◌, ℕ, Bool, IsTrue, ◌⊎◌, List, [], ◌∷◌, ◌++◌, if◌then◌else◌, map}
use Rattle.fl_model.specs.Record.{Plan}
use Rattle.fl_model.specs.Table.{Table, RingName, is_dirty, is_torn, seal_buffer, seal_page, after_seal, table_seals}
use Rattle.fl_model.specs.Mount.{Turn, Of, Replay, turned, Mounts, MountEnd, Stopped, Unread}
use Rattle.fl_model.specs.Work.{Kind, Body, Mark, VoidMark, Erase, effect, Operation, Device, counted, Outcome, Finished, CutShort, Failed, Progress, changed_at, PartEnd, Whole, CutIn, FailedIn, PartProgress, PartPerforms}

-- the operations of a whole seal of a ring
abbrev pub seal_within : Plan → RingName → Table → List (RingName × Kind)
seal_within plan ring table =
    (ring, Body) ∷ (ring, Mark) ∷ (if is_dirty ring (seal_buffer plan ring table) then (ring, Erase) ∷ [] else [])

-- .. and of seals, one after another
abbrev pub seals_within : Plan → List RingName → Table → List (RingName × Kind)
seals_within plan [] table = []
seals_within plan (ring ∷ rings) table = seal_within plan ring table ++ seals_within plan rings (after_seal plan ring table)

-- the operations of a ring's repair
abbrev pub repair_within : Plan → RingName → Table → List (RingName × Kind)
repair_within plan ring table =
    let voided = if is_torn ring table then seal_page plan ring 0 table else table in
    (if is_torn ring table then (ring, VoidMark) ∷ [] else [])
    ++ (if is_dirty ring voided then (ring, Erase) ∷ [] else [])

-- .. and of a turn
abbrev pub turn_within : Plan → Turn → Table → List (RingName × Kind)
turn_within plan (Of ring) table = repair_within plan ring table
turn_within plan Replay table = seals_within plan (table_seals plan table) table

-- an operation of the table at a place among all tables
abbrev pub at_place : ℕ → RingName × Kind → Operation
at_place place operation = record { table = place; ring = operation.0; kind = operation.1 }

-- what an operation makes of its table
abbrev pub effect_within : Plan → RingName × Kind → Table → Table
effect_within plan operation table = effect plan operation.0 operation.1 table

-- a table's operations are done in order, until one is cut or the medium fails in one
abbrev pub TablePerforms : Plan → Bool → List (RingName × Kind) → Device → Table → PartProgress Table → Type 0
TablePerforms plan rose operations device table now = PartPerforms (λ operation. operation.1) (effect_within plan) rose operations device table now

-- all operations are done, one after another
abbrev pub all_done : {O S : Type 0} → (O → S → S) → List O → S → S
all_done change [] s = s
all_done change (operation ∷ operations) s = all_done change operations (change operation s)

-- .. and counted
abbrev pub all_counted : {O : Type 0} → (O → Kind) → List O → Device → Device
all_counted kind [] device = device
all_counted kind (operation ∷ operations) device = all_counted kind operations (counted (kind operation) device)

-- all tables, where one is as given
abbrev pub with_table : ℕ → List Table → Table → List Table
with_table place tables table = changed_at place (λ _. table) tables

abbrev pub outcome_at : ℕ → List Table → PartEnd Table → Outcome
outcome_at place tables Whole = Finished
outcome_at place tables (CutIn before) = CutShort (with_table place tables before)
outcome_at place tables (FailedIn before) = Failed (with_table place tables before)

-- how operations of one table went, seen from all tables
abbrev pub progress_at : ℕ → List Table → PartProgress Table → Progress
progress_at place tables now = record { outcome = outcome_at place tables now.end; device = now.device; tables = with_table place tables now.state }

-- How the mount of one table ends: well, by an operation that failed, or by a read that failed.
pub data TableMountEnd : Type 0 where
  TableMounted : (now : PartProgress Table) → TableMountEnd
  TableStopped : (now : PartProgress Table) → TableMountEnd
  TableUnread : (now : PartProgress Table) → TableMountEnd

-- a read failed: what was done until then stays, and no operation failed
pub record TableUnreads (plan : Plan) (rose : Bool) (operations : List (RingName × Kind)) (device : Device) (table : Table) (now : PartProgress Table) : Type 0 where
  pub may_fail : IsTrue rose
  pub front : List (RingName × Kind)
  pub others : List (RingName × Kind)
  pub split : operations ≡ front ++ others
  pub did : TablePerforms plan rose front device table now
  pub whole : now.end ≡ Whole

-- the operations of a turn ended; the mount goes on only where they were all done
abbrev pub TableGoesOn : PartEnd Table → PartProgress Table → TableMountEnd → Type 0 → Type 0
TableGoesOn Whole now how others = others
TableGoesOn (CutIn before) now how others = how ≡ TableStopped now
TableGoesOn (FailedIn before) now how others = how ≡ TableStopped now

-- these turns of one table come in order
abbrev pub TableMounts : Plan → Bool → List Turn → Device → Table → TableMountEnd → Type 0
TableMounts plan rose [] device table how = how ≡ TableMounted (record { end = Whole; device = device; state = table })
TableMounts plan rose (turn ∷ turns) device table how =
    let begun = turned plan turn table in
    let operations = turn_within plan turn begun in
    ((now : PartProgress Table) × TableUnreads plan rose operations device begun now × (how ≡ TableUnread now))
    ⊎ ((now : PartProgress Table) × TablePerforms plan rose operations device begun now
    × TableGoesOn now.end now how (TableMounts plan rose turns now.device now.state how))

-- .. as part of the mount of all tables, where other turns come after them
abbrev pub MountsAlong : List Plan → Bool → ℕ → List Turn → List (ℕ × Turn) → Device → List Table → TableMountEnd → Type 0
MountsAlong plans rose place turns others device tables (TableMounted now) =
    (how : MountEnd) → Mounts plans rose others now.device (with_table place tables now.state) how →
    Mounts plans rose (map (λ turn. (place, turn)) turns ++ others) device tables how
MountsAlong plans rose place turns others device tables (TableStopped now) =
    Mounts plans rose (map (λ turn. (place, turn)) turns ++ others) device tables (Stopped (progress_at place tables now))
MountsAlong plans rose place turns others device tables (TableUnread now) =
    Mounts plans rose (map (λ turn. (place, turn)) turns ++ others) device tables (Unread (progress_at place tables now))
