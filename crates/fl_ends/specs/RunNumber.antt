-- The number of a status.
use Rattle.std.specs.Prelude.{ℕ}
use Rattle.fl_ends.specs.declared.run.Status.{Status}
use Rattle.fl_ends.specs.declared.run.Status.TheVariants.{Done, Usage, Line, ScriptRead, OutWrite, MediaMake, Config, OtherConfig, ScriptLong, NoMemory}

abbrev pub number_of : Status → ℕ
number_of (Done pending) = 0
number_of Usage = 1
number_of (Line n) = 2
number_of ScriptRead = 3
number_of OutWrite = 4
number_of MediaMake = 5
number_of (Config n) = 6
number_of (OtherConfig wanted found at) = 7
number_of ScriptLong = 8
number_of NoMemory = 9
