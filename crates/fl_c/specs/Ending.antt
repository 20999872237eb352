-- The numbers with which a call ends: those of a run's statuses, and two of the library's own.
use Rattle.std.specs.Prelude.{◌≡◌, ℕ, ◌⊎◌}
use Rattle.fl_ends.specs.declared.run.Status.{Status}
use Rattle.fl_ends.specs.declared.run.Status.TheVariants.{Done, Usage, Line, ScriptRead, OutWrite, MediaMake, Config, OtherConfig, ScriptLong, NoMemory}
use Rattle.fl_c.specs.declared.ending.Refusal.{Refusal}
use Rattle.fl_c.specs.declared.ending.Refusal.TheVariants.{TooSmall, BadLength}

-- a buffer of the caller has no room for what the run left
abbrev pub too_small : ℕ
too_small = 32

-- the image is said to be longer than its buffer
abbrev pub bad_length : ℕ
bad_length = 33

-- the number of what keeps the library from a run
abbrev pub refused : Refusal → ℕ
refused TooSmall = too_small
refused BadLength = bad_length

-- a number that is no status of a run
abbrev pub IsOwn : ℕ → Type 0
IsOwn number = (number ≡ too_small) ⊎ (number ≡ bad_length)

-- the line that a status names, and 0 where it names none
abbrev pub line_of : Status → ℕ
line_of (Done pending) = 0
line_of Usage = 0
line_of (Line n) = n
line_of ScriptRead = 0
line_of OutWrite = 0
line_of MediaMake = 0
line_of (Config n) = n
line_of (OtherConfig wanted found at) = 0
line_of ScriptLong = 0
line_of NoMemory = 0
