-- The numbers of a command that is read are within their bounds.
use Rattle.std.proofs.Common.{◌≡◌, ℕ, true, Ok, List, refl}
use Rattle.fl_image.proofs.ReadWords.{IsRead, command-read}
use Rattle.fl_words.specs.Command as command
use Rattle.fl_words.specs.Command.{Command}
use Rattle.fl_words.specs.Grammar.{command_of}
use Rattle.fl_session.specs.Runnable.{is_within}

read-within : (c : Command) → IsRead c → is_within c ≡ true
read-within (command.Cut n kind) read = read
read-within (command.Agg name range column width) read = read
read-within (command.Open cursor name range span) read = read
read-within (command.Next cursor count) read = read
read-within (command.Close cursor) read = read
read-within (command.Load name count step seed) read = read
read-within c read = refl

pub command-within : (line : List ℕ) (c : Command) → command_of line ≡ Ok c → is_within c ≡ true
command-within line c e = read-within c (command-read line c e)
