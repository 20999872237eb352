-- The number with which a shell ends.
use Rattle.std.specs.Prelude.{ℕ}
use Rattle.fl_ends.specs.declared.shell.ShellStatus.{ShellStatus}
use Rattle.fl_ends.specs.declared.shell.ShellStatus.TheVariants.{Done, InputRead, OutWrite, MediaMake, Unconfigured, InputLong, NoMemory, NotImage, Unflushed}

abbrev pub number_of : ShellStatus → ℕ
number_of Done = 0
number_of InputRead = 3
number_of OutWrite = 4
number_of MediaMake = 5
number_of Unconfigured = 6
number_of InputLong = 8
number_of NoMemory = 9
number_of NotImage = 11
number_of Unflushed = 12
