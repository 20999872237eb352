-- What a ship does over any bytes and on any media.
use Rattle.std.specs.Prelude.{◌≡◌, ◌⊎◌, ℕ, ◌≤◌, IsTrue, Option, None, Some, Result, Ok, Err, List, [], slice_get}
use Rattle.fl_base.specs.Causes.{Appends, AppendsFront}
use Rattle.fl_config.specs.Whole.{Makes}
use Rattle.fl_flash.specs.Flash.{FlashState, Goes}
use Rattle.fl_flash.specs.Media.{MediaState}
use Rattle.fl_image.specs.Header.{IsAccepted}
use Rattle.fl_image.specs.Image.{IsImageOf, OnlyLooksAt}
use Rattle.fl_model.specs.Record.{Config}
use Rattle.fl_frame.specs.Contents.{OnlyReads}
use Rattle.fl_rlc.specs.Table.{table_in}
use Rattle.fl_store.specs.Jobs.{ChangesOwn, HasBadPage, MountsThen}
use Rattle.fl_store.specs.Store.{IsOpened}
use Rattle.fl_store.specs.Tables.{AreNewTables, IsNamed}
use Rattle.fl_store.specs.declared.tables.BadMount.{BadMount}
use Rattle.fl_store.specs.declared.tables.Entry.{Entry}
use Rattle.fl_table.specs.Look.{last_key_in}
use Rattle.fl_words.specs.Config.{Lines}
use Rattle.fl_store.specs.NewImage.{made_image}
use Rattle.fl_ship.specs.Ready.{IsEarly}
use Rattle.fl_ship.specs.Rows.{HasFewNumbers}
use Rattle.fl_ship.specs.Tables.{mount_status}
use Rattle.fl_ship.specs.Text.{shipped_text}
use Rattle.fl_ship.specs.declared.side.Side.TheVariants.{Source, Copy}
use Rattle.fl_ship.specs.declared.status.ShipStatus.{ShipStatus}
use Rattle.fl_ship.specs.declared.status.ShipStatus.TheVariants.{Done, OutWrite, NoMemory, NotImage, Device, BadImage, NoTable, Gap, OtherForm, Spent}

-- ---- between two flashes

-- the copy's table at this place ends with the key, and the source's has records
pub record IsGapOver (sources copies : List Entry) (at last : ℕ) : Type 0 where
  pub source : Entry
  pub here : slice_get sources at ≡ Some source
  pub some : last_key_in (table_in source.table) ≡ None → ⊥
  pub copy : Entry
  pub there : slice_get copies at ≡ Some copy
  pub ends : last_key_in (table_in copy.table) ≡ Some last

-- the copy's table at this place has a ring with fewer page numbers left than so many
pub record IsSpentOver (copies : List Entry) (at count : ℕ) : Type 0 where
  pub copy : Entry
  pub there : slice_get copies at ≡ Some copy
  pub few : HasFewNumbers copy.table count

-- What is told between tables that were mounted: no more records than were asked for; a bad image only of the source's table, of which a
-- page is bad; a gap of the copy's last key, and then nothing of the copy was changed since the mount; spent numbers only of a copy that
-- had fewer left than records were asked for.
abbrev pub Tells : ℕ → ℕ → List Entry → FlashState → List Entry → FlashState → FlashState → ShipStatus → Type 0
Tells count at sources from copies onto onto_now (Done shipped) = shipped ≤ count
Tells count at sources from copies onto onto_now (BadImage Source table) = (table ≡ at) × HasBadPage sources at from
Tells count at sources from copies onto onto_now (BadImage Copy table) = ⊥
Tells count at sources from copies onto onto_now (Gap last oldest) = IsGapOver sources copies at last × (onto_now ≡ onto)
Tells count at sources from copies onto onto_now Spent = IsSpentOver copies at count
Tells count at sources from copies onto onto_now OutWrite = Unit {0}
Tells count at sources from copies onto onto_now NoMemory = Unit {0}
Tells count at sources from copies onto onto_now (Device side) = Unit {0}
Tells count at sources from copies onto onto_now (NotImage side) = ⊥
Tells count at sources from copies onto onto_now NoTable = ⊥
Tells count at sources from copies onto onto_now OtherForm = ⊥

-- Where a table of the copy is refused, that is told and nothing more is done. Else only pages in the rings of its table at this place
-- change.
abbrev pub ShipsOnto : ℕ → ShipStatus → ℕ → List Entry → FlashState → List Entry → FlashState → Result (Unit {0}) BadMount → List Entry → FlashState → Type 0
ShipsOnto count status at sources from copies onto_now (Err bad) now between = (status ≡ mount_status Copy bad.fault bad.at) × (onto_now ≡ between)
ShipsOnto count status at sources from copies onto_now (Ok done) now between = ChangesOwn copies at between onto_now × Tells count at sources from now between onto_now status

-- Where a table of the source is refused, that is told and nothing more is done. Else the source is only read, and the copy's tables are
-- mounted.
abbrev pub ShipsFrom : ℕ → ShipStatus → ℕ → FlashState → List Entry → FlashState → FlashState → Result (Unit {0}) BadMount → List Entry → FlashState → Type 0
ShipsFrom count status at from_now copies onto onto_now (Err bad) now between = (status ≡ mount_status Source bad.fault bad.at) × (from_now ≡ between) × (onto_now ≡ onto)
ShipsFrom count status at from_now copies onto onto_now (Ok done) now between =
    OnlyReads between from_now × MountsThen copies onto onto_now (ShipsOnto count status at now between copies onto_now)

-- the tables of both were mounted, the source's first, and records were put into the copy's table at this place
abbrev pub ShipsBetween : ℕ → ShipStatus → ℕ → List Entry → FlashState → FlashState → List Entry → FlashState → FlashState → Type 0
ShipsBetween count status at sources from from_now copies onto onto_now = MountsThen sources from from_now (ShipsFrom count status at from_now copies onto onto_now)

-- ---- between two media

-- The source was looked at, and the copy was made where it was empty: then stores were opened on both, for tables of one configuration of
-- which the first with the name is at this place.
pub record ShipOver (name : List ℕ) (count : ℕ) (source source_now copy copy_now : MediaState) (status : ShipStatus) : Type 0 where
  pub lines : Lines
  pub image : IsTrue source.tells → IsAccepted lines × IsImageOf source.content lines
  pub own : IsTrue copy.tells → (copy.content ≡ []) ⊎ IsImageOf copy.content lines
  pub sources : List Entry
  pub copies : List Entry
  pub made : AreNewTables sources lines × AreNewTables copies lines
  pub at : ℕ
  pub named : IsNamed sources name at
  pub looked : MediaState
  pub looks : OnlyLooksAt source looked
  pub begun : MediaState
  pub keeps : (copy.content ≡ [] → ⊥) → OnlyLooksAt copy begun
  pub makes : (config : Config) → Makes lines config → IsTrue copy.tells → begun.content ≡ made_image config copy.content
  pub from : FlashState
  pub onto : FlashState
  pub opened : IsOpened lines looked from × IsOpened lines begun onto
  pub from_now : FlashState
  pub onto_now : FlashState
  pub ships : ShipsBetween count status at sources from from_now copies onto onto_now
  -- the bytes before and behind the pages of each flash stand, and no count falls
  pub goes : Goes from from_now × Goes onto onto_now
  pub left : (source_now ≡ from_now.media) × (copy_now ≡ onto_now.media)

-- .. or an empty copy wasn't made whole, and wasn't read, as a mount does first
pub record IsMadeInPart (source source_now copy copy_now : MediaState) (status : ShipStatus) : Type 0 where
  pub told : status ≡ Device Copy
  pub empty : copy.content ≡ []
  pub unread : copy_now.reads ≡ copy.reads
  pub looks : OnlyLooksAt source source_now

-- .. or both media were only looked at
abbrev pub ShipJob : List ℕ → ℕ → MediaState → MediaState → MediaState → MediaState → ShipStatus → Type 0
ShipJob name count source source_now copy copy_now status =
    (IsEarly status × OnlyLooksAt source source_now × OnlyLooksAt copy copy_now) ⊎ IsMadeInPart source source_now copy copy_now status ⊎ ShipOver name count source source_now copy copy_now status

-- ---- to the output

-- What a ship that ended so has written, as far as the bytes of the output are told: how many records it tells as shipped, or where the
-- output failed a front of such a line, with a number of at most as many as were asked for. Otherwise it has written nothing.
abbrev pub WritesLine : {K : Type 0} → ℕ → K → K → Option (List ℕ) → Option (List ℕ) → ShipStatus → Type 0
WritesLine count out out_now written written_now (Done shipped) = Appends written written_now (shipped_text shipped)
WritesLine count out out_now written written_now OutWrite = (shipped : ℕ) × (shipped ≤ count) × AppendsFront written written_now (shipped_text shipped)
WritesLine count out out_now written written_now status = out_now ≡ out
