-- How the configuration of a script is read, and how a run ends in it.
use Rattle.std.specs.Prelude.{◌≡◌, ℕ, ◌+◌, ◌<◌, ◌≤◌, ◌^◌, Bool, true, false, Option, Some, None, Result, Ok, Err, List, [], ◌∷◌, ◌++◌, length, take, drop}
use Rattle.fl_words.specs.Command.{Command}
use Rattle.fl_words.specs.Config.{Lines, whole}
use Rattle.fl_machine.specs.Script.{Start, Unended, BadLine, BadConfig, start_with, start_line, start_of}
use Rattle.fl_ends.specs.declared.run.Status.{Status}
use Rattle.fl_ends.specs.declared.run.Status.TheVariants.{Line, ScriptRead, Config as BadConfiguration, ScriptLong}
use Rattle.fl_session.specs.Runnable.{IsRunnable}
use Rattle.fl_session.specs.Taken.{TakesLine, TakesBegin, IsUnended}
use Rattle.fl_lines.specs.Taken.{HasTaken, TakesFew}
use Rattle.fl_lines.specs.Texts.{most_bytes, whole_lines, rest_of, lines_read}
use Rattle.fl_session.specs.ScriptEnds.{start_in}
use Rattle.fl_session.specs.Next.{IsToRun}
use Rattle.fl_script.specs.declared.command.Command as code
use Rattle.fl_script.specs.CommandView.{command_view}
use Rattle.fl_lines.specs.Given.{Given}
use Rattle.fl_lines.specs.Stream.{LinesState}

-- a stream of which nothing was read
pub record IsFresh (state : LinesState) : Type 0 where
  pub ahead : state.ahead ≡ []
  pub most : state.most ≡ most_bytes
  pub is_open : state.closed ≡ false

-- what a command that is read makes of the configuration: it goes on, or the command ends it, or is refused
abbrev pub GoesOn : Lines → Command → Lines → Type 0
GoesOn old c new = (knots n : ℕ) (line : List ℕ) (others : List (List ℕ)) (go : Lines → Start) → start_line knots n old line others (Ok c) go ≡ go new

pub record EndsIt (old : Lines) (c : Command) (new : Lines) : Type 0 where
  pub same : new ≡ old
  pub runnable : IsRunnable c
  pub ends : (knots n : ℕ) (line : List ℕ) (others : List (List ℕ)) (go : Lines → Start) → start_line knots n old line others (Ok c) go ≡ start_with (whole knots old) n (line ∷ others)

abbrev pub Refuses : Lines → Command → Type 0
Refuses old c = (knots n : ℕ) (line : List ℕ) (others : List (List ℕ)) (go : Lines → Start) → start_line knots n old line others (Ok c) go ≡ BadConfig n

abbrev pub ConfiguresBy : Lines → Command → ℕ → Result Bool Status → Lines → Type 0
ConfiguresBy old c number (Ok true) new = GoesOn old c new
ConfiguresBy old c number (Ok false) new = EndsIt old c new
ConfiguresBy old c number (Err (BadConfiguration n)) new = (n ≡ number) × Refuses old c
ConfiguresBy old c number (Err status) new = ⊥

-- The configuration is whole, and a command ended it: its line is the last that was given.
pub record AtCommand (knots : ℕ) (text : List ℕ) (now : Lines) (number : ℕ) (state : LinesState) (left_now : Option (List ℕ)) : Type 0 where
  pub before : List (List ℕ)
  pub left : List ℕ
  pub left_is : left_now ≡ Some left
  pub given : Given most_bytes text (before ++ state.line ∷ []) state.closed state.most (state.ahead ++ left)
  pub numbered : number ≡ length before + 1
  pub unended : IsUnended (start_of knots before)
  pub few : TakesFew text before left_now
  pub starts : (others : List (List ℕ)) → start_of knots (before ++ state.line ∷ others) ≡ start_with (whole knots now) number (state.line ∷ others)

-- .. or the script ended
pub record AtEnd (knots : ℕ) (text : List ℕ) (now : Lines) (number : ℕ) (left_now : Option (List ℕ)) : Type 0 where
  pub nothing : left_now ≡ Some []
  pub takes : TakesBegin knots text left_now
  pub short : length text ≤ most_bytes
  pub starts : start_of knots (lines_read text) ≡ Unended (whole knots now) number

-- the source failed before the configuration ended
pub record EndsInConfig (knots : ℕ) (text : List ℕ) (left_now : Option (List ℕ)) : Type 0 where
  pub taken : ℕ
  pub within : taken ≤ length text
  pub few : taken ≤ most_bytes
  pub short : length (rest_of (take taken text)) ≤ 4096
  pub left : left_now ≡ Some (drop taken text)
  pub unended : IsUnended (start_of knots (whole_lines (take taken text)))

abbrev pub BeginsAt : ℕ → List ℕ → Lines → Option code.Command → ℕ → LinesState → Option (List ℕ) → Type 0
BeginsAt knots text now (Some first) number state left_now = AtCommand knots text now number state left_now
BeginsAt knots text now None number state left_now = AtEnd knots text now number left_now

abbrev pub EndsBegin : ℕ → List ℕ → Option (List ℕ) → Status → Type 0
EndsBegin knots text left_now (Line n) = (start_in knots text ≡ BadLine n) × TakesLine text n left_now
EndsBegin knots text left_now (BadConfiguration n) = (start_in knots text ≡ BadConfig n) × TakesBegin knots text left_now
EndsBegin knots text left_now ScriptRead = EndsInConfig knots text left_now
EndsBegin knots text left_now ScriptLong = (most_bytes < length text) × IsUnended (start_of knots (lines_read text)) × HasTaken text (most_bytes + 1) left_now
EndsBegin knots text left_now status = ⊥

-- the first command is in hand, if there is one
abbrev pub HoldsFirst : Option code.Command → ℕ → List ℕ → LinesState → Type 0
HoldsFirst (Some first) number room state = IsToRun state.line (command_view first room) × (number + state.most < 2 ^ 32)
HoldsFirst None number room state = Unit {0}

-- a status of the script and its configuration
abbrev pub IsOfScript : Status → Type 0
IsOfScript (Line n) = Unit {0}
IsOfScript (BadConfiguration n) = Unit {0}
IsOfScript ScriptRead = Unit {0}
IsOfScript ScriptLong = Unit {0}
IsOfScript status = ⊥
