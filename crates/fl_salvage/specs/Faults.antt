-- Why rows aren't written to the end, and the status that tells it.
use Rattle.std.specs.Prelude.{ℕ}
use Rattle.fl_base.specs.Causes.{Rose}
use Rattle.fl_csv.specs.declared.record.CsvFault.{CsvFault}
use Rattle.fl_csv.specs.declared.record.CsvFault.TheVariants as line
use Rattle.fl_flash.specs.Media.{MediaState}
use Rattle.fl_image.specs.declared.status.ToolStatus.{ToolStatus}
use Rattle.fl_image.specs.declared.status.ToolStatus.TheVariants.{Device, OutWrite, NoMemory}
use Rattle.fl_salvage.specs.declared.fault.SalvageFault.{SalvageFault}
use Rattle.fl_salvage.specs.declared.fault.SalvageFault.TheVariants as fault

abbrev pub status_of : SalvageFault → ToolStatus
status_of fault.Media = Device
status_of fault.Sink = OutWrite
status_of fault.NoMemory = NoMemory

-- why a line isn't written
abbrev pub of_line : CsvFault → SalvageFault
of_line (line.Sink failed) = fault.Sink
of_line line.NoMemory = fault.NoMemory

-- a fault has its cause: the medium's count of faults rose, or the sink's
abbrev pub IsCaused : MediaState → MediaState → ℕ → ℕ → SalvageFault → Type 0
IsCaused old new told told_now fault.Media = Rose old.faults new.faults
IsCaused old new told told_now fault.Sink = Rose told told_now
IsCaused old new told told_now fault.NoMemory = Unit {0}

-- .. where nothing is written
abbrev pub IsUnread : MediaState → MediaState → SalvageFault → Type 0
IsUnread old new fault.Media = Rose old.faults new.faults
IsUnread old new fault.Sink = ⊥
IsUnread old new fault.NoMemory = Unit {0}
