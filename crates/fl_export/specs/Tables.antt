-- How an export ends over a flash on which the tables of an image lie.
use Rattle.std.specs.Prelude.{ℕ, false, Option, List}
use Rattle.fl_base.specs.declared.types.KeyRange.{KeyRange}
use Rattle.fl_flash.specs.Flash.{FlashState}
use Rattle.fl_image.specs.declared.status.ToolStatus.{ToolStatus}
use Rattle.fl_image.specs.declared.status.ToolStatus.TheVariants.{Done, OutWrite, NoMemory, Device, BadImage}
use Rattle.fl_model.specs.Record.{Plan}
use Rattle.fl_model.specs.Table.{Table}
use Rattle.fl_page.specs.declared.fault.ReadFault.TheVariants.{Flash, BadPage}
use Rattle.fl_store.specs.Tables.{TablesStand}
use Rattle.fl_store.specs.declared.tables.Entry.{Entry}
use Rattle.fl_store.specs.MountEnds.{told_of}
use Rattle.fl_export.specs.Ends.{TablesEnd}
use Rattle.fl_export.specs.declared.fault.ExportFault.{ExportFault}
use Rattle.fl_export.specs.declared.fault.ExportFault.TheVariants as fault

-- the status of an export of a table whose lines aren't written to the end
abbrev pub status_of : ExportFault → ℕ → ToolStatus
status_of fault.NoMemory at = NoMemory
status_of (fault.Sink failed) at = OutWrite
status_of (fault.Read (Flash e)) at = Device
status_of (fault.Read (BadPage bad)) at = BadImage at

-- a status that comes once the table is found
abbrev pub IsOfTable : ToolStatus → Type 0
IsOfTable Done = Unit {0}
IsOfTable OutWrite = Unit {0}
IsOfTable NoMemory = Unit {0}
IsOfTable Device = Unit {0}
IsOfTable (BadImage table) = Unit {0}
IsOfTable status = ⊥

-- how it ends over a flash: that stands for the tables afterwards
abbrev pub EndsOn : List Plan → List Table → List ℕ → KeyRange → FlashState → FlashState → Option (List ℕ) → Option (List ℕ) → List Entry → ToolStatus → Type 0
EndsOn plans tables name range old new told told_now entries status =
    TablesEnd plans tables name range (told_of old.media new.media told told_now) (TablesStand new (λ i. false) plans entries) status
