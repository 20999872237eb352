-- The causes of a ship's statuses, over any bytes, and what becomes of the two media.
use Rattle.std.specs.Prelude.{◌≡◌, ◌⊎◌, ℕ, ◌≤◌, ◌<◌, Bool, true, false, Some, List, [], length, find}
use Rattle.fl_flash.specs.Media.{MediaState}
use Rattle.fl_image.specs.Header.{IsAccepted}
use Rattle.fl_image.specs.Image.{IsImageOf}
use Rattle.fl_model.specs.Record.{Plan, bytes_equal}
use Rattle.fl_store.specs.Named.{IsImageWith}
use Rattle.fl_store.specs.MountEnds.{Keeps}
use Rattle.fl_words.specs.Config.{Lines}
use Rattle.fl_ship.specs.Ends.{is_shipped}
use Rattle.fl_ship.specs.declared.side.Side.TheVariants.{Source, Copy}
use Rattle.fl_ship.specs.declared.status.ShipStatus.{ShipStatus}
use Rattle.fl_ship.specs.declared.status.ShipStatus.TheVariants.{Done, OutWrite, NoMemory, NotImage, Device, BadImage, NoTable, Gap, OtherForm, Spent}

-- The source's bytes are an image, and the copy's are an image of the same configuration or there are none.
pub record AreImages (bytes copy : List ℕ) (lines : Lines) : Type 0 where
  pub accepted : IsAccepted lines
  pub source : IsImageOf bytes lines
  pub copy_is : (copy ≡ []) ⊎ IsImageOf copy lines

-- .. and the first table with the name is one that is shipped, or isn't
pub record AreImagesFor (bytes copy : List ℕ) (name : List ℕ) (shipped : Bool) : Type 0 where
  pub lines : Lines
  pub images : AreImages bytes copy lines
  pub plan : Plan
  pub named : find (λ plan. bytes_equal plan.name name) lines.plans ≡ Some plan
  pub form : is_shipped plan ≡ shipped

-- .. and have more tables than this number
abbrev pub AreImagesOver : List ℕ → List ℕ → List ℕ → ℕ → Type 0
AreImagesOver bytes copy name table = (found : AreImagesFor bytes copy name true) × (table < length found.lines.plans)

-- the source's are an image, and the copy's are none of the same configuration, and not none
pub record IsOtherCopy (bytes copy : List ℕ) : Type 0 where
  pub lines : Lines
  pub accepted : IsAccepted lines
  pub source : IsImageOf bytes lines
  pub some : copy ≡ [] → ⊥
  pub other : IsImageOf copy lines → ⊥

-- both are images, and no table has the name
pub record AreImagesWithout (bytes copy : List ℕ) (name : List ℕ) : Type 0 where
  pub without : IsImageWith bytes name false
  pub images : AreImages bytes copy without.lines

-- There is no image, or another copy; or no table has the name, or it isn't shipped; any other status but those of memory and of
-- the device comes where there is one that is. A bad table is one of the images.
abbrev pub StatusFits : List ℕ → List ℕ → List ℕ → ShipStatus → Type 0
StatusFits bytes copy name (NotImage Source) = (lines : Lines) → IsAccepted lines → IsImageOf bytes lines → ⊥
StatusFits bytes copy name (NotImage Copy) = IsOtherCopy bytes copy
StatusFits bytes copy name NoTable = AreImagesWithout bytes copy name
StatusFits bytes copy name OtherForm = AreImagesFor bytes copy name false
StatusFits bytes copy name (Done shipped) = AreImagesFor bytes copy name true
StatusFits bytes copy name OutWrite = AreImagesFor bytes copy name true
StatusFits bytes copy name (Gap last oldest) = AreImagesFor bytes copy name true
StatusFits bytes copy name Spent = AreImagesFor bytes copy name true
StatusFits bytes copy name (BadImage side table) = AreImagesOver bytes copy name table
StatusFits bytes copy name NoMemory = Unit {0}
StatusFits bytes copy name (Device side) = Unit {0}

-- a ship that ended so has begun with neither medium
abbrev pub is_refused : ShipStatus → Bool
is_refused (NotImage side) = true
is_refused NoTable = true
is_refused OtherForm = true
is_refused status = false

-- What stays of a copy: one that held bytes keeps its length and its header, and an empty one becomes no longer than the image.
pub record CopyKeeps (source : List ℕ) (old new : MediaState) : Type 0 where
  pub some : (old.content ≡ [] → ⊥) → Keeps old new
  pub tells : new.tells ≡ old.tells
  pub later : old.faults ≤ new.faults
  pub none : old.content ≡ [] → length new.content ≤ length source
