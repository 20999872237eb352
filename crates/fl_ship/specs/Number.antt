-- The number of a ship's status.
use Rattle.std.specs.Prelude.{ℕ}
use Rattle.fl_ship.specs.declared.status.ShipStatus.{ShipStatus}
use Rattle.fl_ship.specs.declared.status.ShipStatus.TheVariants.{Done, OutWrite, NoMemory, NotImage, Device, BadImage, NoTable, Gap, OtherForm, Spent}

abbrev pub number_of : ShipStatus → ℕ
number_of (Done shipped) = 0
number_of OutWrite = 4
number_of NoMemory = 9
number_of (NotImage side) = 11
number_of (Device side) = 12
number_of (BadImage side table) = 13
number_of NoTable = 14
number_of (Gap last oldest) = 17
number_of OtherForm = 18
number_of Spent = 19
