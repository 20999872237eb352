-- What a job does to an image whose tables it mounts, over any bytes and on any medium.
use Rattle.std.specs.Prelude.{◌≡◌, ◌⊎◌, ℕ, IsTrue, Some, Result, List, slice_get}
use Rattle.fl_cursor.specs.Cursor.{MayBeBad}
use Rattle.fl_flash.specs.Flash.{FlashState, Goes, page_at}
use Rattle.fl_flash.specs.Media.{MediaState}
use Rattle.fl_image.specs.Header.{IsAccepted}
use Rattle.fl_image.specs.Image.{IsImageOf, OnlyLooksAt}
use Rattle.fl_image.specs.declared.status.ToolStatus.{ToolStatus}
use Rattle.fl_image.specs.declared.status.ToolStatus.TheVariants.{NoMemory, NotImage, Device, NoTable}
use Rattle.fl_frame.specs.Contents.{contents_of}
use Rattle.fl_page.specs.declared.fault.BadPage.{BadPage}
use Rattle.fl_rlc.specs.Table as logged
use Rattle.fl_rlc.specs.Table.{table_in}
use Rattle.fl_words.specs.Config.{Lines}
use Rattle.fl_store.specs.Mounting.{OutsideStands, tried}
use Rattle.fl_store.specs.MountsOver.{MountsOver}
use Rattle.fl_store.specs.Store.{IsOpened}
use Rattle.fl_store.specs.Tables.{AreNewTables, IsNamed}
use Rattle.fl_store.specs.declared.tables.BadMount.{BadMount}
use Rattle.fl_store.specs.declared.tables.Entry.{Entry}

-- The tables were mounted, up to the first that is refused, and then this was done: with the tables and the flash as the mount left
-- them. Outside of the rings of the tables that the mount came to each page stands at the end.
pub record MountsThen (entries : List Entry) (f g : FlashState) (Did : Result (Unit {0}) BadMount → List Entry → FlashState → Type 0) : Type 0 where
  pub outcome : Result (Unit {0}) BadMount
  pub now : List Entry
  pub between : FlashState
  pub mounts : MountsOver entries now f outcome between
  pub did : Did outcome now between
  pub outside : IsTrue f.media.tells → OutsideStands (tried outcome entries) (page_at f) (page_at g)

-- a page of the rows or of the index of the table at this place is bad
pub record HasBadPage (entries : List Entry) (at : ℕ) (f : FlashState) : Type 0 where
  pub entry : Entry
  pub here : slice_get entries at ≡ Some entry
  pub bad : BadPage
  pub is_bad : MayBeBad (table_in entry.table) (contents_of f) bad

-- of the pages of a flash only those in the rings of the table at this place change
pub record ChangesOwn (entries : List Entry) (at : ℕ) (f g : FlashState) : Type 0 where
  pub entry : Entry
  pub here : slice_get entries at ≡ Some entry
  pub outside : IsTrue f.media.tells → logged.OutsideStands entry.table (page_at f) (page_at g)

-- The tables of the image that a medium is were made, of which the first one with the name is at this place; a store was opened on the
-- medium, and this was done to its flash.
pub record JobOver (name : List ℕ) (old new : MediaState) (Did : ℕ → List Entry → FlashState → FlashState → Type 0) : Type 0 where
  pub lines : Lines
  pub image : IsTrue old.tells → IsAccepted lines × IsImageOf old.content lines
  pub entries : List Entry
  pub made : AreNewTables entries lines
  pub at : ℕ
  pub named : IsNamed entries name at
  -- the header was looked at before
  pub looked : MediaState
  pub looks : OnlyLooksAt old looked
  pub begin : FlashState
  pub opened : IsOpened lines looked begin
  pub end : FlashState
  pub did : Did at entries begin end
  -- the bytes before and behind the flash's pages stand, and no count falls
  pub goes : Goes begin end
  pub left : new ≡ end.media

-- a status of a job that opens no store
abbrev pub IsUnopened : ToolStatus → Type 0
IsUnopened NotImage = Unit {0}
IsUnopened NoTable = Unit {0}
IsUnopened Device = Unit {0}
IsUnopened NoMemory = Unit {0}
IsUnopened status = ⊥

-- .. or it opened none, the header was only looked at, and this stayed the same
abbrev pub JobEnds : List ℕ → MediaState → MediaState → ToolStatus → Type 0 → (ℕ → List Entry → FlashState → FlashState → Type 0) → Type 0
JobEnds name old new status Same Did = (IsUnopened status × OnlyLooksAt old new × Same) ⊎ JobOver name old new Did
