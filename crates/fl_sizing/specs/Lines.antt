-- The lines of a configuration as a run of a script takes them, one by one.
use Rattle.std.specs.Prelude.{◌≡◌, ◌⊎◌, ℕ, ◌+◌, Bool, true, false, Option, Some, None, Result, Ok, Err, IsSomeAnd, List, ◌∷◌, drop}
use Rattle.fl_words.specs.Command as command
use Rattle.fl_words.specs.Command.{Command}
use Rattle.fl_words.specs.Config.{Lines, whole}
use Rattle.fl_words.specs.Grammar.{command_of, lines_of}
use Rattle.fl_model.specs.Record.{Config}
use Rattle.fl_words.specs.Parts.{line_parts}
use Rattle.fl_machine.specs.Script.{Start, Ready, Unended, BadLine, BadConfig, start_line, start_from, start_of}
use Rattle.fl_reason.specs.Reason.{Explains, IsRefusedFor}
use Rattle.fl_reason.specs.declared.text.Reason.{Reason}
use Rattle.fl_reason.specs.declared.text.Reason.TheVariants as reason
use Rattle.fl_sizing.specs.declared.end.PlanEnd.{PlanEnd}
use Rattle.fl_sizing.specs.declared.end.PlanStatus.{PlanStatus}
use Rattle.fl_sizing.specs.declared.end.PlanStatus.TheVariants as status

-- the configuration that the start of a script makes, or how it ends: with 0 it has no device line, or no table
abbrev pub told_of : Option Config → Result Config PlanStatus
told_of None = Err (status.Config 0)
told_of (Some config) = Ok config

abbrev pub told_by : Start → Result Config PlanStatus
told_by (Ready config n lines) = Ok config
told_by (Unended config n) = told_of config
told_by (BadLine n) = Err (status.Line n)
told_by (BadConfig n) = Err (status.Config n)

-- that of the script that the text is
abbrev pub configured_in : ℕ → List ℕ → Result Config PlanStatus
configured_in knots text = told_by (start_of knots (lines_of text))

-- a line of the configuration, or an empty one
abbrev pub is_nothing : Command → Bool
is_nothing command.Nothing = true
is_nothing other = false

-- the reason is the fault that the grammar has of the line
abbrev pub IsFault : List ℕ → Reason → Type 0
IsFault line (reason.Line fault) = Explains (command_of line) (Some fault)
IsFault line (reason.Config refusal) = ⊥
IsFault line (reason.Header header) = ⊥

-- .. or the refusal of the line behind those lines
abbrev pub IsRefusal : Lines → List ℕ → Reason → Type 0
IsRefusal before line (reason.Line fault) = ⊥
IsRefusal before line (reason.Config refusal) = (c : Command) × (command_of line ≡ Ok c) × IsRefusedFor before c refusal
IsRefusal before line (reason.Header header) = ⊥

-- why a line of this number ends the plan, behind a configuration so far
abbrev pub IsTold : Lines → List ℕ → ℕ → PlanStatus → Option Reason → Type 0
IsTold before line number (status.Line n) told = (n ≡ number) × IsSomeAnd told (IsFault line)
IsTold before line number (status.Config n) told = (n ≡ number) × IsSomeAnd told (IsRefusal before line)
IsTold before line number other told = ⊥

-- what one line does: it goes on, or it is the first other command, or it is refused
abbrev pub Follows : Lines → List ℕ → ℕ → Result Bool PlanEnd → Lines → Type 0
Follows old line number (Ok true) new =
    (knots : ℕ) (others : List (List ℕ)) (go : Lines → Start) → start_line knots number old line others (command_of line) go ≡ go new
Follows old line number (Ok false) new =
    (new ≡ old) × ((knots : ℕ) (others : List (List ℕ)) (go : Lines → Start) → told_by (start_line knots number old line others (command_of line) go) ≡ told_of (whole knots old))
Follows old line number (Err end) new =
    IsTold old line number end.status end.reason
    × ((knots : ℕ) (others : List (List ℕ)) (go : Lines → Start) → told_by (start_line knots number old line others (command_of line) go) ≡ Err end.status)

-- the configuration that the first lines of a text make, and the line behind them
pub record Reaches (text : List ℕ) (before : Lines) (line : List ℕ) (number : ℕ) : Type 0 where
  pub others : List (List ℕ)
  pub lines : (k : ℕ) × (number ≡ k + 1) × (drop k (line_parts text) ≡ line ∷ others)
  pub starts : (knots : ℕ) → start_of knots (line_parts text) ≡ start_from knots number before (line ∷ others)

-- the line of this text that was refused, and why
pub record IsRefusedIn (text : List ℕ) (number : ℕ) (end : PlanEnd) : Type 0 where
  pub before : Lines
  pub line : List ℕ
  pub reaches : Reaches text before line number
  pub told : IsTold before line number end.status end.reason

-- the configuration of a text ended, with its last line or before its first other command
abbrev pub IsEnded : List ℕ → Lines → Type 0
IsEnded text lines = (knots : ℕ) → configured_in knots text ≡ told_of (whole knots lines)

-- a line of it is refused, or its configuration has no device line or no table
abbrev pub RefusesText : List ℕ → PlanEnd → Type 0
RefusesText text end =
    ((knots : ℕ) → configured_in knots text ≡ Err end.status)
    × ((end ≡ record { status = status.Config 0; reason = None }) ⊎ ((number : ℕ) × IsRefusedIn text number end))
