-- The number with which the program ends.
use Rattle.std.specs.Prelude.{ℕ}
use Rattle.fl_sizing.specs.declared.end.PlanStatus.{PlanStatus}
use Rattle.fl_sizing.specs.declared.end.PlanStatus.TheVariants.{Done, Line, Config, InputRead, OutWrite, InputLong, NoMemory}

-- that of a run that ends for the same cause
abbrev pub number_of : PlanStatus → ℕ
number_of Done = 0
number_of (Line n) = 2
number_of InputRead = 3
number_of OutWrite = 4
number_of (Config n) = 6
number_of InputLong = 8
number_of NoMemory = 9
