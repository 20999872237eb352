-- The bytes of two media, and what is made of the copy's.
use Rattle.std.specs.Prelude.{◌⊎◌, ℕ, Result, Ok, Err, []}
use Rattle.fl_config.specs.Opening as opening
use Rattle.fl_flash.specs.Media.{MediaState}
use Rattle.fl_image.specs.declared.status.ToolStatus.{ToolStatus}
use Rattle.fl_image.specs.declared.status.ToolStatus.TheVariants as job
use Rattle.fl_model.specs.Image.{medium_len}
use Rattle.fl_model.specs.Record.{Config}
use Rattle.fl_words.specs.Medium.{header}
use Rattle.fl_ship.specs.Ends.{Bytes}
use Rattle.fl_ship.specs.declared.side.Side.TheVariants.{Source, Copy}
use Rattle.fl_ship.specs.declared.status.ShipStatus.{ShipStatus}
use Rattle.fl_ship.specs.declared.status.ShipStatus.TheVariants.{Done, OutWrite, NoMemory, NotImage, Device, BadImage, NoTable, Gap, OtherForm, Spent}

abbrev pub bytes_of : MediaState → MediaState → MediaState → MediaState → Bytes
bytes_of source source_now copy copy_now =
    record { source = source.content; source_now = source_now.content; copy = copy.content; copy_now = copy_now.content }

-- the status of a source that isn't opened
abbrev pub source_status : ToolStatus → ShipStatus
source_status job.Device = Device Source
source_status job.NoMemory = NoMemory
source_status status = NotImage Source

-- a copy is opened as an image of the configuration: an empty one is made
abbrev pub OpensCopy : Config → MediaState → Result (Unit {0}) ShipStatus → MediaState → Type 0
OpensCopy config old (Ok done) new = opening.IsMade (medium_len config) (header config) old new ⊎ opening.IsFound (medium_len config) (header config) old new
OpensCopy config old (Err (Device Copy)) new = opening.IsBroken (medium_len config) old new
OpensCopy config old (Err (NotImage Copy)) new = (wanted found at : ℕ) × opening.IsOther (medium_len config) (header config) wanted found at old new
OpensCopy config old (Err (Device Source)) new = ⊥
OpensCopy config old (Err (NotImage Source)) new = ⊥
OpensCopy config old (Err (Done shipped)) new = ⊥
OpensCopy config old (Err OutWrite) new = ⊥
OpensCopy config old (Err NoMemory) new = ⊥
OpensCopy config old (Err (BadImage side table)) new = ⊥
OpensCopy config old (Err NoTable) new = ⊥
OpensCopy config old (Err (Gap last oldest)) new = ⊥
OpensCopy config old (Err OtherForm) new = ⊥
OpensCopy config old (Err Spent) new = ⊥
