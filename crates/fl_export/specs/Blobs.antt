-- The bytes of a blob, read whole.
use Rattle.std.specs.Prelude.{◌≡◌, ℕ, ◌≤◌, Bool, true, false, Result, Ok, Err, List, ◌++◌, length}
use Rattle.fl_flash.specs.Flash.{FlashState}
use Rattle.fl_model.specs.Query.{BlobState, Lost, Stands}
use Rattle.fl_model.specs.Table as model
use Rattle.fl_page.specs.declared.fault.ReadFault.{ReadFault}
use Rattle.fl_frame.specs.Reads as looking
use Rattle.fl_var.specs.Reading as reading
use Rattle.fl_var.specs.Reading.{turned, Reads}
use Rattle.fl_var.specs.declared.reader.BlobReader.{BlobReader}
use Rattle.fl_export.specs.Writing.{NoneBad}
use Rattle.fl_export.specs.declared.fault.ExportFault.{ExportFault}

-- these bytes were taken behind those that were there, or no page was bad
abbrev pub Gathers : List ℕ → List ℕ → List ℕ → Result (Unit {0}) ExportFault → Type 0
Gathers bytes old new (Ok done) = new ≡ old ++ bytes
Gathers bytes old new (Err fault) = NoneBad fault

-- what is left of a blob was found, and its bytes are these where it stands; or no page was bad
abbrev pub FindsBytes : BlobState → List ℕ → Result Bool ExportFault → Type 0
FindsBytes state bytes (Ok true) = state ≡ Stands bytes
FindsBytes state bytes (Ok false) = state ≡ Lost
FindsBytes state bytes (Err fault) = NoneBad fault

-- the blob of an entry, which has bytes, was opened so over a flash in a state, and the flash is in another one now
pub record WasOpened (table : model.Table) (entry : model.Entry) (bytes : List ℕ) (f g : FlashState) (stands : Result Bool ReadFault) (reader : BlobReader) : Type 0 where
  pub some : 1 ≤ length bytes
  pub only : looking.OnlyReads f 1 g
  pub ready : stands ≡ Ok true → Reads reader f
  pub finds : reading.Finds table entry bytes f (turned stands reader)
