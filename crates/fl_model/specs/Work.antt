-- The flash operations of a command, one by one, and what is left where one of them fails.
use Rattle.std.specs.Prelude.{◌≡◌, ℕ, zero, suc, ◌-◌, Bool, true, false, ◌==◌, ◌⊎◌, Option, Some, None, option_map, unwrap_or, List, [], ◌∷◌, ◌++◌, if◌then◌else◌, IsTrue}
use Rattle.fl_base.specs.Counts.{next_count}
use Rattle.fl_base.specs.declared.types.CutKind.{CutKind}
use Rattle.fl_base.specs.declared.types.CutKind.TheVariants.{Before, After, Half, Noise}
use Rattle.fl_model.specs.Record.{Plan}
use Rattle.fl_model.specs.Ring.{begun, erased}
use Rattle.fl_model.specs.Table.{Table, RingName, with_ring, is_dirty, is_torn, seal_buffer, seal_page}

pub data Kind : Type 0 where
  -- the program of a page's body, and of its commit mark
  Body : Kind
  Mark : Kind
  -- the program that makes a torn page void
  VoidMark : Kind
  -- the erase of the block ahead
  Erase : Kind

-- an operation of one ring of one table
pub record Operation : Type 0 where
  pub table : ℕ
  pub ring : RingName
  pub kind : Kind

-- what an operation makes of its table
abbrev pub effect : Plan → RingName → Kind → Table → Table
effect plan ring Body table = with_ring ring begun table
effect plan ring Mark table = seal_buffer plan ring table
effect plan ring VoidMark table = seal_page plan ring 0 table
effect plan ring Erase table = with_ring ring erased table

-- the list with its n-th element changed
abbrev pub changed_at : {X : Type 0} → ℕ → (X → X) → List X → List X
changed_at n change [] = []
changed_at zero change (x ∷ xs) = change x ∷ xs
changed_at (suc n) change (x ∷ xs) = x ∷ changed_at n change xs

-- the same for two lists side by side
abbrev pub changed_by : {P X : Type 0} → ℕ → (P → X → X) → List P → List X → List X
changed_by n change [] xs = xs
changed_by n change (p ∷ ps) [] = []
changed_by zero change (p ∷ ps) (x ∷ xs) = change p x ∷ xs
changed_by (suc n) change (p ∷ ps) (x ∷ xs) = x ∷ changed_by n change ps xs

-- the tables after an operation is done
abbrev pub done : List Plan → Operation → List Table → List Table
done plans operation tables = changed_by operation.table (λ plan table. effect plan operation.ring operation.kind table) plans tables

-- the operations of a whole seal: body, mark, and an erase where the trim gives up a block
abbrev pub seal_operations : Plan → ℕ → RingName → Table → List Operation
seal_operations plan place ring table =
    record { table = place; ring = ring; kind = Body }
    ∷ record { table = place; ring = ring; kind = Mark }
    ∷ (if is_dirty ring (seal_buffer plan ring table) then record { table = place; ring = ring; kind = Erase } ∷ [] else [])

-- the operations of seals, one after another
abbrev pub operations_of : Plan → ℕ → List RingName → Table → List Operation
operations_of plan place [] table = []
operations_of plan place (ring ∷ rings) table =
    seal_operations plan place ring table
    ++ operations_of plan place rings (with_ring ring erased (seal_buffer plan ring table))

-- the operations of a repair: a torn page is voided, and then a block ahead that waits for its erase is erased
abbrev pub repair_operations : Plan → ℕ → RingName → Table → List Operation
repair_operations plan place ring table =
    let voided = if is_torn ring table then seal_page plan ring 0 table else table in
    (if is_torn ring table then record { table = place; ring = ring; kind = VoidMark } ∷ [] else [])
    ++ (if is_dirty ring voided then record { table = place; ring = ring; kind = Erase } ∷ [] else [])

-- which of its two ends a torn operation leaves
pub data Ending : Type 0 where
  AsBefore : Ending
  AsAfter : Ending
  Either : Ending

-- half of a body leaves a torn page, half of a mark no mark, and half of a void mark makes the page void
abbrev pub ending_of : CutKind → Kind → Ending
ending_of Before kind = AsBefore
ending_of After kind = AsAfter
ending_of Half Body = AsAfter
ending_of Half Mark = AsBefore
ending_of Half VoidMark = AsAfter
ending_of Half Erase = Either
ending_of (Noise seed) kind = Either

-- an operation that goes from one state to another and fails leaves this one
abbrev pub Leaves : {S : Type 0} → Ending → S → S → S → Type 0
Leaves AsBefore before after left = left ≡ before
Leaves AsAfter before after left = left ≡ after
Leaves Either before after left = (left ≡ before) ⊎ (left ≡ after)

-- what the device counts: the armed cut, which is so many operations away, and the programs and erases so far
pub record Device : Type 0 where
  pub armed : Option (ℕ × CutKind)
  pub programs : ℕ
  pub erases : ℕ

abbrev pub is_erase : Kind → Bool
is_erase Erase = true
is_erase _ = false

-- an operation is counted, and is not the one that the cut names
abbrev pub counted : Kind → Device → Device
counted kind device = record {
  armed = option_map (λ cut. (cut.0 - 1, cut.1)) device.armed;
  programs = if is_erase kind then device.programs else next_count device.programs;
  erases = if is_erase kind then next_count device.erases else device.erases;
}

-- the cut fires: nothing is armed any more
abbrev pub fired : Kind → Device → Device
fired kind device = record (counted kind device) { armed = None }

-- the kind of the armed cut, if the next operation is the one that it names
abbrev pub cut_now : Device → Option CutKind
cut_now device = unwrap_or (option_map (λ cut. if cut.0 == 1 then Some cut.1 else None) device.armed) None

-- how a list of operations ends; where one fails, `before` are the tables just before it
pub data Outcome : Type 0 where
  Finished : Outcome
  CutShort : (before : List Table) → Outcome
  Failed : (before : List Table) → Outcome

-- how a command with operations goes on, from a device and tables to a device and tables
pub record Progress : Type 0 where
  pub outcome : Outcome
  pub device : Device
  pub tables : List Table

-- the cut of this kind falls into the operation; a medium that fails in it leaves either end
abbrev pub IsCut : List Plan → Bool → CutKind → Operation → Device → List Table → Progress → Type 0
IsCut plans rose kind operation device tables end =
    (end.outcome ≡ CutShort tables) × (end.device ≡ fired operation.kind device)
    × Leaves (if rose then Either else ending_of kind operation.kind) tables (done plans operation tables) end.tables

-- the medium fails in the operation
abbrev pub IsFailed : List Plan → Bool → Operation → Device → List Table → Progress → Type 0
IsFailed plans rose operation device tables end =
    IsTrue rose × (end.outcome ≡ Failed tables) × (end.device ≡ counted operation.kind device)
    × Leaves Either tables (done plans operation tables) end.tables

-- the first operation is cut, or fails, or is done, and then the others go on
abbrev pub PerformsFirst : List Plan → Bool → Option CutKind → Operation → Device → List Table → Progress → Type 0 → Type 0
PerformsFirst plans rose (Some kind) operation device tables end others = IsCut plans rose kind operation device tables end
PerformsFirst plans rose None operation device tables end others = IsFailed plans rose operation device tables end ⊎ others

-- The operations are done in order, until one is cut or the medium fails in one, which it may only where its faults rose.
abbrev pub Performs : List Plan → Bool → List Operation → Device → List Table → Progress → Type 0
Performs plans rose [] device tables end =
    (end.outcome ≡ Finished) × (end.device ≡ device) × (end.tables ≡ tables)
Performs plans rose (operation ∷ operations) device tables end =
    PerformsFirst plans rose (cut_now device) operation device tables end
    (Performs plans rose operations (counted operation.kind device) (done plans operation tables) end)

-- The same for one part of the store alone, a ring or a table: `change` says what an operation makes of the part, and
-- `kind` what is done to the flash.

-- how the operations of a part end; where one fails, `before` is the part just before it
pub data PartEnd (S : Type 0) : Type 0 where
  Whole : PartEnd S
  CutIn : (before : S) → PartEnd S
  FailedIn : (before : S) → PartEnd S

pub record PartProgress (S : Type 0) : Type 0 where
  pub end : PartEnd S
  pub device : Device
  pub state : S

-- the cut of this kind falls into the operation, which would make `after` of `before`
abbrev pub PartCut : {S : Type 0} → Bool → CutKind → Kind → Device → S → S → PartProgress S → Type 0
PartCut rose cut kind device before after now =
    (now.end ≡ CutIn before) × (now.device ≡ fired kind device)
    × Leaves (if rose then Either else ending_of cut kind) before after now.state

-- the medium fails in it
abbrev pub PartFailed : {S : Type 0} → Bool → Kind → Device → S → S → PartProgress S → Type 0
PartFailed rose kind device before after now =
    IsTrue rose × (now.end ≡ FailedIn before) × (now.device ≡ counted kind device)
    × Leaves Either before after now.state

abbrev pub PartFirst : {S : Type 0} → Bool → Option CutKind → Kind → Device → S → S → PartProgress S → Type 0 → Type 0
PartFirst rose (Some cut) kind device before after now others = PartCut rose cut kind device before after now
PartFirst rose None kind device before after now others = PartFailed rose kind device before after now ⊎ others

abbrev pub PartPerforms : {O S : Type 0} → (O → Kind) → (O → S → S) → Bool → List O → Device → S → PartProgress S → Type 0
PartPerforms kind change rose [] device s now = (now.end ≡ Whole) × (now.device ≡ device) × (now.state ≡ s)
PartPerforms kind change rose (operation ∷ operations) device s now =
    PartFirst rose (cut_now device) (kind operation) device s (change operation s) now
    (PartPerforms kind change rose operations (counted (kind operation) device) (change operation s) now)
