-- What a reason says of a line, in the words of the grammar and of the configuration.
use Rattle.std.specs.Prelude.{◌≡◌, ℕ, Bool, true, false, Option, Some, None, Result, Ok, Err, IsSomeAnd, List}
use Rattle.fl_words.specs.Command as command
use Rattle.fl_words.specs.Command.{Command}
use Rattle.fl_words.specs.Config.{Lines, configured}
use Rattle.fl_words.specs.Grammar as grammar
use Rattle.fl_plan.specs.Refusal.{fault_of}
use Rattle.fl_reason.specs.declared.config.ConfigReason.{ConfigReason}
use Rattle.fl_reason.specs.declared.line.LineReason.{LineReason}
use Rattle.fl_reason.specs.declared.line.LineReason.TheVariants.{TooLong, Unknown, Form, Number, Late}

-- the last bytes of a text, and whether others stood in front of them
pub record Kept : Type 0 where
  pub bytes : List ℕ
  pub is_cut : Bool

-- a line of a configuration
abbrev pub configures : Command → Bool
configures (command.Device page block) = true
configures (command.Table line) = true
configures other = false

-- the reason is the fault of the line, or that it configures, though it is a command; else it is a command
abbrev pub Explains : Result Command grammar.LineFault → Option LineReason → Type 0
Explains read None = (c : Command) × (read ≡ Ok c) × (configures c ≡ false)
Explains read (Some TooLong) = read ≡ Err grammar.TooLong
Explains read (Some (Unknown word)) = read ≡ Err grammar.Unknown
Explains read (Some (Form shape)) = read ≡ Err grammar.Form
Explains read (Some (Number shape)) = read ≡ Err grammar.Number
Explains read (Some Late) = (c : Command) × (read ≡ Ok c) × (configures c ≡ true)

-- the line is refused behind those lines, for this reason
abbrev pub IsRefusedFor : Lines → Command → ConfigReason → Type 0
IsRefusedFor lines c reason = IsSomeAnd (fault_of reason.refusal) (λ fault. configured lines c ≡ Err fault)

-- the line is taken, or refused for this reason, and then changes nothing
abbrev pub TakesOr : Lines → Command → Option ConfigReason → Lines → Type 0
TakesOr old c None new = configured old c ≡ Ok new
TakesOr old c (Some reason) new = IsRefusedFor old c reason × (new ≡ old)
