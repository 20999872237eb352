-- The commands that are run.
use Rattle.std.specs.Prelude.{◌≡◌, Bool, true, Some, nat_le, nat_lt}
use Rattle.fl_words.specs.Command as command
use Rattle.fl_words.specs.Command.{Command}
use Rattle.fl_machine.specs.Script.{runs_command}

-- those numbers of a command that the code needs bounded are within the grammar's bounds
abbrev pub is_within : Command → Bool
-- a cut names an operation, counted from 1
is_within (command.Cut n kind) = nat_le 1 n
-- a group has room for a key
is_within (command.Agg name range column width) = nat_le 1 width
-- there are four cursors
is_within (command.Open cursor name range span) = nat_lt cursor 4
is_within (command.Next cursor count) = nat_lt cursor 4
is_within (command.Close cursor) = nat_lt cursor 4
-- the keys of a load grow
is_within (command.Load name count step seed) = nat_le 1 step
is_within c = true

-- a command that is run has such numbers, and is no line of a configuration
pub record IsRunnable (c : Command) : Type 0 where
  pub within : is_within c ≡ true
  pub runs : runs_command c ≡ Some c
