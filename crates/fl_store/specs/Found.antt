-- What is found of an image that stands for tables.
use Rattle.std.specs.Prelude.{◌≡◌, ◌⊎◌, Result, Ok, Err}
use Rattle.fl_config.specs.Whole.{Makes}
use Rattle.fl_image.specs.declared.status.ToolStatus.{ToolStatus}
use Rattle.fl_image.specs.declared.status.ToolStatus.TheVariants.{NoMemory, Device}
use Rattle.fl_model.specs.Record.{Config}
use Rattle.fl_store.specs.declared.found.FoundImage.{FoundImage}

-- its configuration, unless memory isn't there or the medium fails
abbrev pub Finds : Config → Result FoundImage ToolStatus → Type 0
Finds config (Ok found) = Makes found.config config
Finds config (Err status) = (status ≡ NoMemory) ⊎ (status ≡ Device)
