-- What stores go on to hold, and for what new images stand.
use Rattle.std.specs.Prelude.{true, false, List, map}
use Rattle.fl_flash.specs.Flash.{FlashState}
use Rattle.fl_image.specs.Header.{IsMade}
use Rattle.fl_machine.specs.Machine.{fresh_tables}
use Rattle.fl_model.specs.Record.{Config}
use Rattle.fl_model.specs.Table as model
use Rattle.fl_model.specs.Table.{lose}
use Rattle.fl_frame.specs.Contents.{OnlyReads}
use Rattle.fl_words.specs.Medium.{IsImage}
use Rattle.fl_store.specs.NewImage.{new_image}
use Rattle.fl_store.specs.Store.{Holds}
use Rattle.fl_store.specs.declared.tables.Entry.{Entry}

pub record StoresHold : Type 0 where
  -- while a store is only read, as by the steps of a cursor or of a blob's reader, it holds the same tables
  pub reads : (config : Config) (entries : List Entry) (f g : FlashState) (tables : List model.Table) → OnlyReads f g → Holds config entries f true tables → Holds config entries g true tables
  -- one that is mounted holds on its pages alone what is left of them without what is in memory
  pub rests : (config : Config) (entries : List Entry) (f : FlashState) (tables : List model.Table) → Holds config entries f true tables → Holds config entries f false (map lose tables)

abbrev pub NewImagesAreEmpty : Type 0
NewImagesAreEmpty = (config : Config) → IsMade config → IsImage config (new_image config) (fresh_tables config)
