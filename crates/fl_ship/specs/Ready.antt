-- Two media between which a ship may begin, and the end of one that doesn't.
use Rattle.std.specs.Prelude.{◌≡◌, ◌⊎◌, ℕ, ◌<◌, IsTrue, true, false, Option, Some, None, List, [], length, slice_get}
use Rattle.fl_base.specs.declared.types.Geometry.{Geometry}
use Rattle.fl_config.specs.Whole.{is_whole, Makes}
use Rattle.fl_flash.specs.Media.{MediaState}
use Rattle.fl_image.specs.Header.{IsAccepted, IsMade}
use Rattle.fl_image.specs.Image.{IsImageOf}
use Rattle.fl_model.specs.Image.{medium_len}
use Rattle.fl_model.specs.Record.{Config, Plan}
use Rattle.fl_model.specs.Table.{Table}
use Rattle.fl_store.specs.Store.{IsLayoutOf}
use Rattle.fl_store.specs.Tables.{IsNamed, Names}
use Rattle.fl_store.specs.declared.found.FoundImage.{FoundImage}
use Rattle.fl_words.specs.Medium.{IsImage}
use Rattle.fl_ship.specs.Ends.{IsCopy, ShipEnds, is_shipped}
use Rattle.fl_ship.specs.Media.{bytes_of}
use Rattle.fl_ship.specs.Tables.{told_of}
use Rattle.fl_ship.specs.declared.ready.Ready.{Ready}
use Rattle.fl_ship.specs.declared.status.ShipStatus.{ShipStatus}
use Rattle.fl_ship.specs.declared.status.ShipStatus.TheVariants.{Done, OutWrite, NoMemory, NotImage, Device, BadImage, NoTable, Gap, OtherForm, Spent}

-- The source is an image of the configuration, whose table at the place has the name, and is shipped; the copy is another one, or
-- is empty.
pub record IsReady (ready : Ready) (name : List ℕ) (source copy : MediaState) : Type 0 where
  pub whole : IsTrue (is_whole ready.config)
  pub source_layout : IsLayoutOf ready.source ready.config
  pub copy_layout : IsLayoutOf ready.copy ready.config
  pub rows : (geometry : Geometry) → ready.config.device ≡ Some geometry → length ready.rooms.rows.bytes ≡ geometry.page
  pub index : (geometry : Geometry) → ready.config.device ≡ Some geometry → length ready.rooms.index.bytes ≡ geometry.page
  pub at : ready.at < length ready.config.plans
  pub named : IsNamed ready.source.tables.entries.items name ready.at
  pub copy_named : IsNamed ready.copy.tables.entries.items name ready.at
  pub shipped : (plan : Plan) → slice_get ready.config.plans ready.at ≡ Some plan → is_shipped plan ≡ true
  pub size : (config : Config) → Makes ready.config config → length source.content ≡ medium_len config
  pub copy_size : (config : Config) → Makes ready.config config → (copy.content ≡ [] → ⊥) → length copy.content ≡ medium_len config
  pub makes : (config : Config) (tables : List Table) → IsTrue source.tells → IsMade config → IsImage config source.content tables → Makes ready.config config
  pub image : IsTrue source.tells → IsAccepted ready.config × IsImageOf source.content ready.config
  pub own : IsTrue copy.tells → (copy.content ≡ []) ⊎ IsImageOf copy.content ready.config

-- a ship that ended so has begun with neither medium
abbrev pub IsEarly : ShipStatus → Type 0
IsEarly NoMemory = Unit {0}
IsEarly (NotImage side) = Unit {0}
IsEarly (Device side) = Unit {0}
IsEarly NoTable = Unit {0}
IsEarly OtherForm = Unit {0}
IsEarly (Done shipped) = ⊥
IsEarly OutWrite = ⊥
IsEarly (BadImage side table) = ⊥
IsEarly (Gap last oldest) = ⊥
IsEarly Spent = ⊥

-- .. over media that stand for tables
abbrev pub EndsEarly : List ℕ → MediaState → MediaState → MediaState → MediaState → ShipStatus → Type 0
EndsEarly name source source_now copy copy_now status =
    (config : Config) (sources copies : List Table) (count : ℕ) (told : Option (List ℕ)) → IsTrue source.tells → IsTrue copy.tells → IsMade config → IsImage config source.content sources → IsCopy config copy.content copies →
    ShipEnds config sources copies name count (told_of source source_now copy copy_now told told) (bytes_of source source_now copy copy_now) status

-- what a ship of the table with the name needs besides the media, of this image
pub record IsPrepared (ready : Ready) (found : FoundImage) (name : List ℕ) : Type 0 where
  pub config : ready.config ≡ found.config
  pub source : ready.source ≡ found.layout
  pub copy : IsLayoutOf ready.copy found.config
  pub rows : (geometry : Geometry) → found.config.device ≡ Some geometry → length ready.rooms.rows.bytes ≡ geometry.page
  pub index : (geometry : Geometry) → found.config.device ≡ Some geometry → length ready.rooms.index.bytes ≡ geometry.page
  pub named : IsNamed found.layout.tables.entries.items name ready.at
  pub shipped : (plan : Plan) → slice_get found.config.plans ready.at ≡ Some plan → is_shipped plan ≡ true

-- .. or why there isn't: no memory, no table with the name, or one that isn't shipped
abbrev pub IsUnprepared : FoundImage → List ℕ → ShipStatus → Type 0
IsUnprepared found name NoMemory = Unit {0}
IsUnprepared found name NoTable = Names found.layout.tables.entries.items name None
IsUnprepared found name OtherForm =
    (at : ℕ) × IsNamed found.layout.tables.entries.items name at × ((plan : Plan) → slice_get found.config.plans at ≡ Some plan → is_shipped plan ≡ false)
IsUnprepared found name (NotImage side) = ⊥
IsUnprepared found name (Device side) = ⊥
IsUnprepared found name (Done shipped) = ⊥
IsUnprepared found name OutWrite = ⊥
IsUnprepared found name (BadImage side table) = ⊥
IsUnprepared found name (Gap last oldest) = ⊥
IsUnprepared found name Spent = ⊥
