-- The number of a status.
use Rattle.std.specs.Prelude.{ℕ}
use Rattle.fl_image.specs.declared.status.ToolStatus.{ToolStatus}
use Rattle.fl_image.specs.declared.status.ToolStatus.TheVariants.{Done, InputRead, OutWrite, InputLong, NoMemory, NotImage, Device, BadImage, NoTable, BadInput, Unsound}

abbrev pub number_of : ToolStatus → ℕ
number_of Done = 0
number_of InputRead = 3
number_of OutWrite = 4
number_of InputLong = 8
number_of NoMemory = 9
number_of NotImage = 11
number_of Device = 12
number_of (BadImage table) = 13
number_of NoTable = 14
number_of (BadInput line) = 15
number_of Unsound = 16
