-- How a ship ends, by its status, over two media of which each stands for tables.
use Rattle.std.specs.Prelude.{◌≡◌, ◌⊎◌, ℕ, ◌≤◌, Bool, true, false, not, ◌||◌, IsTrue, Option, Some, None, Result, Ok, Err, List, [], length, map, take}
use Rattle.fl_base.specs.Causes.{Rose, Appends, AppendsFront}
use Rattle.fl_flash.specs.declared.flash.FlashFault.{FlashFault}
use Rattle.fl_flash.specs.declared.flash.FlashFault.TheVariants as flash
use Rattle.fl_machine.specs.Machine.{begins}
use Rattle.fl_machine.specs.Script.{StandsFor}
use Rattle.fl_machine.specs.Step.{Located, located_from, all_ready}
use Rattle.fl_model.specs.Image.{medium_len}
use Rattle.fl_model.specs.Mount.{Mounts, Mounted, turns_from}
use Rattle.fl_model.specs.Record.{Record, Plan, Config, has_var, has_log}
use Rattle.fl_model.specs.Ship.{MayShip, records_in, to_ship}
use Rattle.fl_model.specs.Table.{Table, lose}
use Rattle.fl_model.specs.Within.{with_table}
use Rattle.fl_model.specs.Work.{Progress}
use Rattle.fl_page.specs.declared.fault.ReadFault.TheVariants as read
use Rattle.fl_store.specs.MountEnds as store
use Rattle.fl_store.specs.MountEnds.{MountFails}
use Rattle.fl_store.specs.Store.{at_rest}
use Rattle.fl_table.specs.declared.faults.FlushFault.TheVariants as flush
use Rattle.fl_table.specs.declared.faults.PutRefusal.TheVariants as put
use Rattle.fl_words.specs.Medium.{IsImage}
use Rattle.fl_ship.specs.Missing.{IsGap}
use Rattle.fl_ship.specs.Puts.{ShipsGiven}
use Rattle.fl_ship.specs.Text.{shipped_text}
use Rattle.fl_ship.specs.declared.fault.ShipFault.{ShipFault}
use Rattle.fl_ship.specs.declared.fault.ShipFault.TheVariants.{Read, Put, Flush}
use Rattle.fl_ship.specs.declared.side.Side.TheVariants.{Source, Copy}
use Rattle.fl_ship.specs.declared.status.ShipStatus.{ShipStatus}
use Rattle.fl_ship.specs.declared.status.ShipStatus.TheVariants.{Done, OutWrite, NoMemory, NotImage, Device, BadImage, NoTable, Gap, OtherForm, Spent}

-- the faults of the source's medium and of the copy's, the reads of the copy's, and the bytes that are written, before and after
pub record Told : Type 0 where
  pub source : ℕ
  pub source_now : ℕ
  pub copy : ℕ
  pub copy_now : ℕ
  pub copy_reads : ℕ
  pub copy_reads_now : ℕ
  pub written : Option (List ℕ)
  pub written_now : Option (List ℕ)

-- how the faults of a medium rose, for a mount of its tables
abbrev pub of_source : Told → store.Told
of_source told = record { written = told.written; written_now = told.written_now; faults = told.source; faults_now = told.source_now }

abbrev pub of_copy : Told → store.Told
of_copy told = record { written = told.written; written_now = told.written_now; faults = told.copy; faults_now = told.copy_now }

-- all tables of a medium were mounted
pub record MountsAll (plans : List Plan) (tables : List Table) (faults faults_now : ℕ) : Type 0 where
  pub rose : Bool
  pub risen : IsTrue rose → Rose faults faults_now
  pub end : Progress
  pub did : Mounts plans rose (turns_from 0 plans) at_rest tables (Mounted end)

-- What each medium stands for at the end: these tables, without what is in memory alone.
pub record Holding : Type 1 where
  pub Source : List Table → Type 0
  pub Copy : List Table → Type 0

-- Both were mounted, and each has the table with the name. `Left` says what is left of the copy's, where the source's is as given.
pub record BothMounted (plans : List Plan) (sources copies : List Table) (name : List ℕ) (told : Told) (holding : Holding) (Left : Plan → Table → Table → Table → Type 0) : Type 0 where
  pub source : MountsAll plans sources told.source told.source_now
  pub copy : MountsAll plans copies told.copy told.copy_now
  pub from : Located
  pub found : located_from 0 plans (all_ready plans source.end.tables) name ≡ Some from
  pub to : Located
  pub copy_found : located_from 0 plans (all_ready plans copy.end.tables) name ≡ Some to
  pub after : Table
  pub left : Left from.plan from.table to.table after
  pub holds : holding.Source (map lose (all_ready plans source.end.tables))
  pub copy_holds : holding.Copy (map lose (with_table to.place (all_ready plans copy.end.tables) after))

-- the records of the source that come after those of the copy, so many at most
abbrev pub shipped_records : ℕ → Table → Table → List Record
shipped_records count source copy = take count (to_ship (records_in source) (records_in copy))

-- there is no gap, and they are shipped so
abbrev pub ShipsSo : ℕ → Result ℕ ShipFault → Plan → Table → Table → Table → Type 0
ShipsSo count result plan source copy after =
    MayShip (records_in source) (records_in copy) × ShipsGiven plan (shipped_records count source copy) copy result after

-- the source has no record with the copy's last key, so that records between the two may be gone; the copy is left as it is
abbrev pub IsGapBetween : ℕ → ℕ → Plan → Table → Table → Table → Type 0
IsGapBetween last oldest plan source copy after = IsGap (records_in source) (records_in copy) last oldest × (after ≡ copy)

-- a read of the source failed, before a record was put or behind some
abbrev pub IsUnread : ℕ → Plan → Table → Table → Table → Type 0
IsUnread count plan source copy after =
    (after ≡ copy) ⊎ ((fault : FlashFault) × ShipsSo count (Err (Read (read.Flash fault))) plan source copy after)

-- an operation of the copy failed, in a put or in the flush
abbrev pub IsBroken : ℕ → Plan → Table → Table → Table → Type 0
IsBroken count plan source copy after =
    ShipsSo count (Err (Put (put.Flash flash.Media))) plan source copy after ⊎ ShipsSo count (Err (Flush (flush.Flash flash.Media))) plan source copy after

-- the mount of the source failed, and the copy's wasn't begun
abbrev pub SourceFails : List Plan → List Table → List Table → List ℕ → Told → Holding → Type 0
SourceFails plans sources copies name told holding = MountFails plans sources name (of_source told) holding.Source × holding.Copy copies

-- the source was mounted, and the mount of the copy failed
pub record CopyFails (plans : List Plan) (sources copies : List Table) (name : List ℕ) (told : Told) (holding : Holding) : Type 0 where
  pub source : MountsAll plans sources told.source told.source_now
  pub holds : holding.Source (map lose (all_ready plans source.end.tables))
  pub fails : MountFails plans copies name (of_copy told) holding.Copy

-- nothing was written
abbrev pub IsQuiet : Told → Type 0
IsQuiet told = Appends told.written told.written_now []

-- how it ends over tables of which one has the name
abbrev pub TablesShip : List Plan → List Table → List Table → List ℕ → ℕ → Told → Holding → ShipStatus → Type 0
TablesShip plans sources copies name count told holding (Done shipped) =
    BothMounted plans sources copies name told holding (ShipsSo count (Ok shipped)) × Appends told.written told.written_now (shipped_text shipped)
TablesShip plans sources copies name count told holding OutWrite =
    (shipped : ℕ) × BothMounted plans sources copies name told holding (ShipsSo count (Ok shipped)) × AppendsFront told.written told.written_now (shipped_text shipped)
TablesShip plans sources copies name count told holding (Gap last oldest) =
    BothMounted plans sources copies name told holding (IsGapBetween last oldest) × IsQuiet told
TablesShip plans sources copies name count told holding Spent =
    BothMounted plans sources copies name told holding (ShipsSo count (Err (Put put.Spent))) × IsQuiet told
TablesShip plans sources copies name count told holding (Device Source) =
    Rose told.source told.source_now × IsQuiet told
    × (SourceFails plans sources copies name told holding ⊎ BothMounted plans sources copies name told holding (IsUnread count))
TablesShip plans sources copies name count told holding (Device Copy) =
    Rose told.copy told.copy_now × IsQuiet told
    × (CopyFails plans sources copies name told holding ⊎ BothMounted plans sources copies name told holding (IsBroken count))
TablesShip plans sources copies name count told holding (BadImage side table) = ⊥
TablesShip plans sources copies name count told holding NoMemory = ⊥
TablesShip plans sources copies name count told holding (NotImage side) = ⊥
TablesShip plans sources copies name count told holding NoTable = ⊥
TablesShip plans sources copies name count told holding OtherForm = ⊥

-- ---- over two media

-- the bytes of both, before and after
pub record Bytes : Type 0 where
  pub source : List ℕ
  pub source_now : List ℕ
  pub copy : List ℕ
  pub copy_now : List ℕ

-- a copy is empty, and stands for empty tables, or it is an image that stands for these
abbrev pub IsCopy : Config → List ℕ → List Table → Type 0
IsCopy config bytes copies = StandsFor config bytes (begins copies)

-- each medium is an image of these tables at the end
abbrev pub held_in : Config → Bytes → Holding
held_in config bytes = record { Source = IsImage config bytes.source_now; Copy = IsImage config bytes.copy_now }

-- nothing was made or mounted, and nothing written
pub record IsUnbegun (bytes : Bytes) (told : Told) : Type 0 where
  pub source : bytes.source_now ≡ bytes.source
  pub copy : bytes.copy_now ≡ bytes.copy
  pub quiet : IsQuiet told

-- An empty copy was made in part, the source's bytes stand, and nothing was written. The copy wasn't read: a mount of its tables, which
-- comes once it is made, reads first.
pub record IsHalfMade (config : Config) (bytes : Bytes) (told : Told) : Type 0 where
  pub empty : bytes.copy ≡ []
  pub part : length bytes.copy_now ≤ medium_len config
  pub unread : told.copy_reads_now ≡ told.copy_reads
  pub source : bytes.source_now ≡ bytes.source
  pub quiet : IsQuiet told

-- a table that has variable data or a log isn't shipped
abbrev pub is_shipped : Plan → Bool
is_shipped plan = not (has_var plan || has_log plan)

-- the table with the name is one that is shipped, or isn't
pub record IsOfForm (config : Config) (sources : List Table) (name : List ℕ) (shipped : Bool) : Type 0 where
  pub at : Located
  pub found : located_from 0 config.plans sources name ≡ Some at
  pub form : is_shipped at.plan ≡ shipped

-- the table with the name is one that is shipped, and it ended so
abbrev pub ShipsOver : Config → List Table → List Table → List ℕ → ℕ → Told → Bytes → ShipStatus → Type 0
ShipsOver config sources copies name count told bytes status =
    IsOfForm config sources name true × TablesShip config.plans sources copies name count told (held_in config bytes) status

-- how it ends over media that stand for tables
abbrev pub ShipEnds : Config → List Table → List Table → List ℕ → ℕ → Told → Bytes → ShipStatus → Type 0
ShipEnds config sources copies name count told bytes NoTable = (located_from 0 config.plans sources name ≡ None) × IsUnbegun bytes told
ShipEnds config sources copies name count told bytes OtherForm = IsOfForm config sources name false × IsUnbegun bytes told
ShipEnds config sources copies name count told bytes NoMemory = IsUnbegun bytes told
ShipEnds config sources copies name count told bytes (Device Source) =
    (Rose told.source told.source_now × IsUnbegun bytes told) ⊎ ShipsOver config sources copies name count told bytes (Device Source)
ShipEnds config sources copies name count told bytes (Device Copy) =
    (Rose told.copy told.copy_now × (IsUnbegun bytes told ⊎ IsHalfMade config bytes told)) ⊎ ShipsOver config sources copies name count told bytes (Device Copy)
ShipEnds config sources copies name count told bytes status = ShipsOver config sources copies name count told bytes status
