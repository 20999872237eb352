-- What a store holds, and its layout.
use Rattle.std.specs.Prelude.{◌≡◌, ℕ, ◌*◌, ◌<◌, ◌≤◌, Bool, true, IsTrue, List, Some, None, length, take, sum_by}
use Rattle.fl_base.specs.declared.types.Geometry.{Geometry}
use Rattle.fl_flash.specs.Flash.{FlashState, blank}
use Rattle.fl_flash.specs.Media.{MediaState}
use Rattle.fl_flash.specs.Places.{page_of}
use Rattle.fl_flash.specs.Room.{RoomSizes}
use Rattle.fl_model.specs.Image.{medium_len}
use Rattle.fl_model.specs.Record.{Config, blocks_of}
use Rattle.fl_model.specs.Table as model
use Rattle.fl_model.specs.Work.{Device}
use Rattle.fl_frame.specs.Device.{SameDevice}
use Rattle.fl_words.specs.Config.{Lines}
use Rattle.fl_words.specs.Medium.{header}
use Rattle.fl_store.specs.Tables.{AreNewTables, TablesStand}
use Rattle.fl_store.specs.declared.layout.Layout.{Layout}
use Rattle.fl_store.specs.declared.tables.Entry.{Entry}

-- there is room for a flash of so many blocks
pub record HasRoom (room : RoomSizes) (geometry : Geometry) (blocks : ℕ) : Type 0 where
  pub bytes : geometry.block * geometry.page ≤ room.bytes
  pub flags : blocks * geometry.block ≤ room.pages

-- the tables of these lines, none of them mounted, and room for the flash of their device
pub record IsLayoutOf (layout : Layout) (lines : Lines) : Type 0 where
  pub tables : AreNewTables layout.tables.entries.items lines
  pub room : (g : Geometry) → lines.device ≡ Some g → HasRoom layout.room g (sum_by blocks_of lines.plans)

-- each page behind the header is blank
abbrev pub IsBlankBehind : Geometry → ℕ → List ℕ → Type 0
IsBlankBehind geometry blocks content = (p : ℕ) → p < blocks * geometry.block → page_of content 1024 geometry.page p ≡ blank geometry.page

-- no cut is armed, and nothing is counted yet
abbrev pub at_rest : Device
at_rest = record { armed = None; programs = 0; erases = 0 }

-- a flash on a medium, with its power on, on which nothing was done yet
pub record IsOpened (lines : Lines) (medium : MediaState) (f : FlashState) : Type 0 where
  pub media : f.media ≡ medium
  pub start : f.start ≡ 1024
  pub device : lines.device ≡ Some f.geometry
  pub blocks : f.blocks ≡ sum_by blocks_of lines.plans
  pub on : f.is_on ≡ true
  pub calm : SameDevice f at_rest
  pub unread : f.work.reads ≡ 0

-- the header and the length of the medium are those of the configuration
pub record IsOnMedium (config : Config) (f : FlashState) : Type 0 where
  pub told : IsTrue f.media.tells
  pub len : length f.media.content ≡ medium_len config
  pub head : take 1024 f.media.content ≡ header config
  pub start : f.start ≡ 1024
  pub geometry : f.geometry ≡ config.geometry

-- A store of an image of the configuration holds these tables: mounted, or on the pages alone.
pub record Holds (config : Config) (entries : List Entry) (f : FlashState) (mounted : Bool) (tables : List model.Table) : Type 0 where
  pub medium : IsOnMedium config f
  pub stand : TablesStand f (λ i. mounted) config.plans entries tables
