-- How a ship ends: just as the call that does it says, with the table and the count that the words have.
use Rattle.std.specs.Prelude.{◌≡◌, ◌⊎◌, ℕ, ◌≤◌, IsTrue, true, Option, List}
use Rattle.fl_base.specs.Causes.{Rose}
use Rattle.fl_flash.specs.Media.{MediaState}
use Rattle.fl_image.specs.Header.{IsMade}
use Rattle.fl_image.specs.Image.{OnlyLooksAt}
use Rattle.fl_model.specs.Record.{Config}
use Rattle.fl_model.specs.Table.{Table}
use Rattle.fl_ship.specs.Ends.{IsCopy, ShipEnds}
use Rattle.fl_ship.specs.Fits.{AreImagesFor, CopyKeeps, StatusFits, is_refused}
use Rattle.fl_ship.specs.Media.{bytes_of}
use Rattle.fl_ship.specs.Over.{ShipJob as ShipsOver, WritesLine}
use Rattle.fl_ship.specs.Tables.{told_of}
use Rattle.fl_ship.specs.declared.side.Side.TheVariants.{Source, Copy}
use Rattle.fl_ship.specs.declared.status.ShipStatus.{ShipStatus}
use Rattle.fl_ship.specs.declared.status.ShipStatus.TheVariants.{OutWrite, Device, BadImage}
use Rattle.fl_store.specs.Repaired.{AreRepaired, OthersAreRepaired}
use Rattle.fl_store.specs.MountEnds.{Keeps}
use Rattle.fl_words.specs.Medium.{IsImage}
use Rattle.fl_command.specs.declared.exit.Exit.{Exit}
use Rattle.fl_command.specs.declared.exit.Exit.TheVariants as ending
use Rattle.fl_command.specs.declared.ship_words.ShipJob.{ShipJob}

-- What a ship reads and writes: the media of the image and of its copy; and its output, with the bytes that it has taken, where it
-- tells them, and how often it failed.
pub record Sides (K : Type 0) : Type 0 where
  pub source : MediaState
  pub copy : MediaState
  pub out : K
  pub written : Option (List ℕ)
  pub out_faults : ℕ

abbrev pub sides_of : {K : Type 0} → MediaState → MediaState → K → Option (List ℕ) → ℕ → Sides K
sides_of source copy out written out_faults = record { source = source; copy = copy; out = out; written = written; out_faults = out_faults }

-- A ship of the table with the name: over an image that stands for tables, and a copy that does or is empty, the next records are put
-- into the copy, and how many they were is written. Both media stand for the tables that this leaves, but for an empty copy whose
-- making failed. Whatever bytes the media hold, and whether they tell them, the status says why neither is opened, or the tables of both are
-- mounted, up to one that is refused; then the source is only read, and of the copy only pages in the rings of the named table change. As
-- far as the bytes of the output are told, a ship that is done writes how many records its status tells, and one whose output failed a front
-- of such a line; else nothing is written.
pub record Ships {K : Type 0} (name : List ℕ) (count : ℕ) (old new : Sides K) (status : ShipStatus) : Type 0 where
  pub ends : (config : Config) (sources copies : List Table) → IsTrue old.source.tells → IsTrue old.copy.tells → IsMade config → IsImage config old.source.content sources
      → IsCopy config old.copy.content copies
      → ShipEnds config sources copies name count (told_of old.source new.source old.copy new.copy old.written new.written) (bytes_of old.source new.source old.copy new.copy) status
  pub stands : (config : Config) (tables : List Table) → IsTrue old.source.tells → IsMade config → IsImage config old.source.content tables → (now : List Table) × IsImage config new.source.content now
  pub copy_stands : (config : Config) (copies : List Table) → IsTrue old.source.tells → IsTrue old.copy.tells → IsMade config → IsImage config old.copy.content copies
      → (now : List Table) × IsImage config new.copy.content now
  pub good : (config : Config) (tables : List Table) (table : ℕ) → IsTrue old.source.tells → IsMade config → IsImage config old.source.content tables → status ≡ BadImage Source table → ⊥
  pub good_copy : (config : Config) (copies : List Table) (table : ℕ) → IsTrue old.source.tells → IsTrue old.copy.tells → IsMade config → IsCopy config old.copy.content copies → status ≡ BadImage Copy table → ⊥
  pub repairs : (config : Config) (sources : List Table) → IsTrue old.source.tells → IsMade config → IsImage config old.source.content sources → (status ≡ Device Source → ⊥)
      → AreRepaired config old.source.content new.source.content
  pub others : (config : Config) (copies : List Table) → IsTrue old.source.tells → IsTrue old.copy.tells → IsMade config → IsImage config old.copy.content copies → (status ≡ Device Copy → ⊥)
      → OthersAreRepaired config name old.copy.content new.copy.content
  pub over : ShipsOver name count old.source new.source old.copy new.copy status
  pub fits : IsTrue old.source.tells → IsTrue old.copy.tells → StatusFits old.source.content old.copy.content name status
  pub changes : IsTrue old.source.tells → IsTrue old.copy.tells → AreImagesFor old.source.content old.copy.content name true
      ⊎ ((new.source.content ≡ old.source.content) × (new.copy.content ≡ old.copy.content))
  pub untouched : is_refused status ≡ true → OnlyLooksAt old.source new.source × OnlyLooksAt old.copy new.copy × (new.out ≡ old.out)
  pub device : status ≡ Device Source → Rose old.source.faults new.source.faults
  pub copy_device : status ≡ Device Copy → Rose old.copy.faults new.copy.faults
  pub write : status ≡ OutWrite → Rose old.out_faults new.out_faults
  pub line : WritesLine count old.out new.out old.written new.written status
  pub later : old.out_faults ≤ new.out_faults
  pub keeps : Keeps old.source new.source
  pub copy_keeps : CopyKeeps old.source.content old.copy new.copy

-- the program ends by a ship that ended so
abbrev pub ShipEndsAs : {K : Type 0} → ShipJob → Sides K → Sides K → Exit → Type 0
ShipEndsAs job old new exit = (status : ShipStatus) × (exit ≡ ending.Ship status) × Ships job.name job.count old new status
