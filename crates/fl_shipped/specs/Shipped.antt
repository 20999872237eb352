-- Over everything that is done to a source and its copy: the copy has a part of all that was ever written into the source.
use Rattle.std.specs.Prelude.{◌≡◌, ◌⊎◌, ℕ, true, Some, List, [], ◌∷◌, ◌++◌, map}
use Rattle.fl_image.specs.Header.{IsMade}
use Rattle.fl_machine.specs.Machine.{Machine, begins, fresh_tables}
use Rattle.fl_machine.specs.Run.{Run, commands_of, end_of}
use Rattle.fl_machine.specs.Script.{StandsAfter, StandsFor}
use Rattle.fl_machine.specs.Step.{Moment, located_from}
use Rattle.fl_model.specs.Record.{Config, Plan, Record}
use Rattle.fl_model.specs.Ship.{Ascends, IsPart, records_in}
use Rattle.fl_model.specs.Table.{Table, fresh_table, lose}
use Rattle.fl_ship.specs.Ends.{Bytes, IsCopy, IsHalfMade, ShipEnds, Told, is_shipped}
use Rattle.fl_ship.specs.declared.side.Side.TheVariants.{Copy}
use Rattle.fl_ship.specs.declared.status.ShipStatus.{ShipStatus}
use Rattle.fl_ship.specs.declared.status.ShipStatus.TheVariants.{Device}
use Rattle.fl_words.specs.Command.{Command}
use Rattle.fl_words.specs.Medium.{IsImage}
use Rattle.fl_shipped.specs.Ascending.{TakesLowerIn}
use Rattle.fl_shipped.specs.Growing.{table_at, written_in}

-- ---- what happens

-- the bytes of both media
pub record Media : Type 0 where
  pub source : List ℕ
  pub copy : List ℕ

abbrev pub empty_media : Media
empty_media = record { source = []; copy = [] }

pub data Event : Type 0 where
  -- commands are run over the source
  SourceRuns : (commands : List Command) → Event
  -- at most so many records are shipped
  Ships : (count : ℕ) → Event
  -- commands that write nothing into the copy's table are run over the copy
  CopyRuns : (commands : List Command) → Event
  -- the copy is emptied, as one that was made in part must be
  CopyEmptied : Event

-- the commands are run, with cuts and failed operations among them, and then the medium stands for the state without what is in memory
pub record RunsTo (config : Config) (commands : List Command) (old : Machine) (bytes_now : List ℕ) : Type 0 where
  pub moments : List Moment
  pub commands_are : commands_of moments ≡ commands
  pub run : Run config old moments
  pub stands_after : StandsAfter config (Some bytes_now) (end_of old moments)

-- .. from each state for which the medium stood
abbrev pub RunsOver : Config → List Command → List ℕ → List ℕ → Type 0
RunsOver config commands bytes bytes_now = (old : Machine) → StandsFor config bytes old → RunsTo config commands old bytes_now

abbrev pub bytes_of : Media → Media → Bytes
bytes_of before after = record { source = before.source; source_now = after.source; copy = before.copy; copy_now = after.copy }

-- a ship, however it ended, but in the making of an empty copy
pub record ShipsOver (config : Config) (name : List ℕ) (count : ℕ) (before after : Media) : Type 0 where
  pub told : Told
  pub status : ShipStatus
  pub ends : (sources copies : List Table) → IsImage config before.source sources → IsCopy config before.copy copies → ShipEnds config sources copies name count told (bytes_of before after) status
  pub made : status ≡ Device Copy → IsHalfMade config (bytes_of before after) told → ⊥
  -- an empty source is no image
  pub refused : before.source ≡ [] → after ≡ before

pub record CopyRunsOver (config : Config) (place : ℕ) (plan : Plan) (commands : List Command) (before after : Media) : Type 0 where
  pub source : after.source ≡ before.source
  pub runs : RunsOver config commands before.copy after.copy
  pub nothing : (old : Machine) (stands : StandsFor config before.copy old) → written_in plan place old (runs old stands).moments ≡ []

abbrev pub Happens : Config → List ℕ → ℕ → Plan → Media → Event → Media → Type 0
Happens config name place plan before (SourceRuns commands) after = RunsOver config commands before.source after.source × (after.copy ≡ before.copy)
Happens config name place plan before (Ships count) after = ShipsOver config name count before after
Happens config name place plan before (CopyRuns commands) after = CopyRunsOver config place plan commands before after
Happens config name place plan before CopyEmptied after = (after.source ≡ before.source) × (after.copy ≡ [])

-- events, each with the media after it
abbrev pub AllHappen : Config → List ℕ → ℕ → Plan → Media → List (Event × Media) → Type 0
AllHappen config name place plan before [] = Unit {0}
AllHappen config name place plan before (step ∷ steps) = Happens config name place plan before step.0 step.1 × AllHappen config name place plan step.1 steps

-- ---- what comes of it

-- the tables that the media stand for, and all that was ever written into the source's table
pub record State : Type 0 where
  pub sources : List Table
  pub copies : List Table
  pub ever : List Record

abbrev pub first_state : Config → State
first_state config = record { sources = fresh_tables config; copies = fresh_tables config; ever = [] }

pub record Stand (config : Config) (media : Media) (state : State) : Type 0 where
  pub source : StandsFor config media.source (begins state.sources)
  pub copy : StandsFor config media.copy (begins state.copies)

-- a run over the source writes what its commands write
pub record SourceWrites (config : Config) (place : ℕ) (plan : Plan) (commands : List Command) (before after : State) : Type 0 where
  pub moments : List Moment
  pub commands_are : commands_of moments ≡ commands
  pub run : Run config (begins before.sources) moments
  pub sources : after.sources ≡ map lose (end_of (begins before.sources) moments).tables
  pub ever : after.ever ≡ before.ever ++ written_in plan place (begins before.sources) moments
  -- the keys of all that go on to ascend, but where the table's last record was given up and it then took a lower key
  pub keys : Ascends before.ever → Ascends after.ever ⊎ TakesLowerIn config place plan before.ever (begins before.sources) moments

-- .. and no other event writes into the source's table
abbrev pub Writes : Config → ℕ → Plan → State → Event → State → Type 0
Writes config place plan before (SourceRuns commands) after = SourceWrites config place plan commands before after
Writes config place plan before (Ships count) after = after.ever ≡ before.ever
Writes config place plan before (CopyRuns commands) after = after.ever ≡ before.ever
Writes config place plan before CopyEmptied after = after.ever ≡ before.ever

-- the copy's table has a part, without a gap, of all that was ever written, where the keys of that ascend
abbrev pub HasPart : ℕ → Plan → State → Type 0
HasPart place plan state = Ascends state.ever → IsPart (records_in (table_at plan place state.copies)) state.ever

-- after each event
abbrev pub KeepParts : Config → ℕ → Plan → State → List (Event × Media) → Type 0
KeepParts config place plan before [] = Unit {0}
KeepParts config place plan before (step ∷ steps) =
    (after : State) × Stand config step.1 after × Writes config place plan before step.0 after × HasPart place plan after × KeepParts config place plan after steps

-- Over every list of runs of a source, ships, repeated ships and cuts that begins with an empty source and an empty copy: of the
-- table of a name that has neither variable data nor a log.
abbrev pub CopiesOfImagesAreParts : Type 0
CopiesOfImagesAreParts =
    (config : Config) (name : List ℕ) (place : ℕ) (plan : Plan) (steps : List (Event × Media)) → IsMade config →
    located_from 0 config.plans (fresh_tables config) name ≡ Some (record { place = place; plan = plan; table = fresh_table plan }) → is_shipped plan ≡ true →
    AllHappen config name place plan empty_media steps → KeepParts config place plan (first_state config) steps
