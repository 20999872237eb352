-- What is found of a table by its name, and why none is.
use Rattle.std.specs.Prelude.{ℕ, ◌≤◌, false, IsTrue, List, length}
use Rattle.fl_base.specs.Causes.{Rose}
use Rattle.fl_config.specs.Whole.{is_whole}
use Rattle.fl_flash.specs.Media.{MediaState}
use Rattle.fl_image.specs.Header.{IsAccepted}
use Rattle.fl_image.specs.Image.{IsImageOf}
use Rattle.fl_image.specs.declared.status.ToolStatus.{ToolStatus}
use Rattle.fl_image.specs.declared.status.ToolStatus.TheVariants.{NoMemory, NotImage, Device, NoTable}
use Rattle.fl_words.specs.Config.{Lines}
use Rattle.fl_store.specs.Named.{IsImageWith}
use Rattle.fl_store.specs.Store.{IsLayoutOf}
use Rattle.fl_store.specs.Tables.{IsNamed}
use Rattle.fl_store.specs.declared.found_table.FoundTable.{FoundTable}

-- the first table with the name, of the configuration of which the medium is an image
pub record FindsTable (medium : MediaState) (name : List ℕ) (found : FoundTable) : Type 0 where
  pub image : IsTrue medium.tells → IsAccepted found.config × IsImageOf medium.content found.config
  pub layout : IsLayoutOf found.layout found.config
  pub named : IsNamed found.layout.tables.entries.items name found.at
  pub few : length found.layout.tables.entries.items ≤ 4
  pub whole : IsTrue (is_whole found.config)

-- There is no image, or it has no table with the name; or the medium failed, or there is no memory.
abbrev pub FindsNone : MediaState → MediaState → List ℕ → ToolStatus → Type 0
FindsNone old new name NotImage = IsTrue old.tells → (lines : Lines) → IsAccepted lines → IsImageOf old.content lines → ⊥
FindsNone old new name NoTable = IsTrue old.tells → IsImageWith old.content name false
FindsNone old new name Device = Rose old.faults new.faults
FindsNone old new name NoMemory = Unit {0}
FindsNone old new name status = ⊥
