-- What a status tells of the input, whatever the medium is.
use Rattle.std.specs.Prelude.{◌≡◌, ℕ, ◌^◌, ◌<◌, Option, Some, Result, Ok, Err, List, []}
use Rattle.fl_lines.specs.Stream.{LinesState}
use Rattle.fl_ends.specs.declared.shell.ShellStatus.{ShellStatus}
use Rattle.fl_ends.specs.declared.shell.ShellStatus.TheVariants.{Done, Unconfigured, InputLong, Unflushed}
use Rattle.fl_shell.specs.Leading.{LeavesOn}
use Rattle.fl_shell.specs.declared.begin.Begun.{Begun}

-- it was read to its end, or it is too long; `total` is its length
abbrev pub InputEnds : ℕ → Option (List ℕ) → ShellStatus → Type 0
InputEnds total left_now Done = left_now ≡ Some []
InputEnds total left_now Unflushed = left_now ≡ Some []
InputEnds total left_now Unconfigured = left_now ≡ Some []
InputEnds total left_now InputLong = 2 ^ 44 < total
InputEnds total left_now status = Unit {0}

-- .. and what is left of it behind the lines of a configuration
abbrev pub InputBegins : ℕ → Result Begun ShellStatus → LinesState → Option (List ℕ) → Type 0
InputBegins total (Ok begun) new left_now = LeavesOn begun total new left_now
InputBegins total (Err status) new left_now = InputEnds total left_now status
