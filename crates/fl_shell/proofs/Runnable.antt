-- A line that isn't refused is a command that a session may execute.
use Rattle.std.proofs.Common.{◌≡◌, ℕ, false, Some, Ok, List, refl}
use Rattle.fl_words.specs.Command as command
use Rattle.fl_words.specs.Command.{Command}
use Rattle.fl_words.specs.Grammar.{command_of}
use Rattle.fl_machine.specs.Script.{runs_command}
use Rattle.fl_reason.specs.Reason.{configures}
use Rattle.fl_session.specs.Next.{IsToRun}
use Rattle.fl_session.proofs.Bounded.{command-within}

runs-unless : (c : Command) → configures c ≡ false → runs_command c ≡ Some c
runs-unless (command.Device page block) e = cc
runs-unless (command.Table line) e = cc
runs-unless c e = refl

pub to_run : (line : List ℕ) (c : Command) → command_of line ≡ Ok c → configures c ≡ false → IsToRun line c
to_run line c reads e = record { reads = reads; runnable = record { within = command-within line c reads; runs = runs-unless c e } }
