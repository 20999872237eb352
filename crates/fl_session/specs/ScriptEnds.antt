-- How a run over a script ends, by its status, from the script and the bytes that were taken of it.
use Rattle.std.specs.Prelude.{◌≡◌, ℕ, ◌+◌, ◌<◌, ◌≤◌, ◌⊎◌, Option, Some, None, List, [], ◌++◌, length, take, drop, if◌then◌else◌}
use Rattle.fl_model.specs.Record.{Config}
use Rattle.fl_words.specs.Command.{Command}
use Rattle.fl_machine.specs.Script.{Start, Ready, Unended, BadLine, BadConfig, start_of, ended, accepted, first_refused}
use Rattle.fl_lines.specs.Taken.{HasTaken}
use Rattle.fl_lines.specs.Texts.{most_bytes, whole_lines, rest_of, is_long, lines_read}
use Rattle.fl_ends.specs.declared.run.Status.{Status}
use Rattle.fl_ends.specs.declared.run.Status.TheVariants.{Done, Usage, Line, ScriptRead, OutWrite, MediaMake, Config as BadConfiguration, OtherConfig, ScriptLong, NoMemory}
use Rattle.fl_session.specs.Taken.{TakesLine, TakesBegin}

-- how the configuration of a script ends; the end of a long one isn't reached
abbrev pub start_in : ℕ → List ℕ → Start
start_in knots text = if is_long text then start_of knots (lines_read text) else ended (start_of knots (lines_read text))

-- what is said of the medium and of the replies
pub record Effects : Type 1 where
  -- where these commands were run
  pub all : Config → List Command → Type 0
  -- .. and the sink failed in the reply of the last of them
  pub into : Config → List Command → Type 0
  -- where nothing was done
  pub untouched : Type 0
  -- where the medium failed before the image was opened
  pub making : Config → Type 0
  -- where it is of another configuration
  pub other : Config → ℕ → ℕ → ℕ → Type 0
  -- where memory ran out, in a script that begins so
  pub unbegun : Start → Type 0

-- nothing is said of them
abbrev pub unsaid : Effects
unsaid = record {
  all = λ config commands. Unit {0};
  into = λ config commands. Unit {0};
  untouched = Unit {0};
  making = λ config. Unit {0};
  other = λ config wanted found at. Unit {0};
  unbegun = λ start. Unit {0};
}

-- The reading ended behind these lines: where a command line had ended the configuration, all lines behind it were run,
-- none of them refused; where none had, nothing was done.
abbrev pub EndsEarly : Effects → Start → Type 0
EndsEarly effects (Ready config n lines) = (first_refused n lines ≡ None) × effects.all config (accepted lines)
EndsEarly effects (Unended config n) = effects.untouched
EndsEarly effects (BadLine n) = ⊥
EndsEarly effects (BadConfig n) = ⊥

abbrev pub EndsDone : Effects → Start → Type 0
EndsDone effects (Ready config n lines) = (first_refused n lines ≡ None) × effects.all config (accepted lines)
EndsDone effects (Unended config n) = ⊥
EndsDone effects (BadLine n) = ⊥
EndsDone effects (BadConfig n) = ⊥

-- a line is refused, and those before it were run
abbrev pub EndsLine : Effects → Start → ℕ → Type 0
EndsLine effects (Ready config n lines) line = (first_refused n lines ≡ Some line) × effects.all config (accepted lines)
EndsLine effects (Unended config n) line = ⊥
EndsLine effects (BadLine n) line = (n ≡ line) × effects.untouched
EndsLine effects (BadConfig n) line = ⊥

-- some of the commands were run, and the sink failed in the reply of the last
pub record IntoReply (effects : Effects) (text : List ℕ) (config : Config) (n : ℕ) (lines : List (List ℕ)) (left_now : Option (List ℕ)) : Type 0 where
  pub commands : List Command
  pub others : List Command
  pub split : commands ++ others ≡ accepted lines
  pub runs : effects.into config commands
  -- the line of the last one was in hand
  pub number : ℕ
  pub number_is : number + 1 ≡ n + length commands
  pub takes : TakesLine text number left_now

abbrev pub EndsInto : Effects → List ℕ → Start → Option (List ℕ) → Type 0
EndsInto effects text (Ready config n lines) left_now = IntoReply effects text config n lines left_now
EndsInto effects text (Unended config n) left_now = ⊥
EndsInto effects text (BadLine n) left_now = ⊥
EndsInto effects text (BadConfig n) left_now = ⊥

-- the medium failed while the header or the blank image was read or written
abbrev pub EndsMaking : Effects → Start → Type 0
EndsMaking effects (Ready config n lines) = effects.making config
EndsMaking effects (Unended config n) = ⊥
EndsMaking effects (BadLine n) = ⊥
EndsMaking effects (BadConfig n) = ⊥

abbrev pub EndsConfig : Effects → Start → ℕ → Type 0
EndsConfig effects (BadConfig n) line = (n ≡ line) × effects.untouched
EndsConfig effects (Ready config n lines) line = ⊥
EndsConfig effects (Unended config n) line = ⊥
EndsConfig effects (BadLine n) line = ⊥

abbrev pub EndsOther : Effects → Start → ℕ → ℕ → ℕ → Type 0
EndsOther effects (Ready config n lines) wanted found at = effects.other config wanted found at
EndsOther effects (Unended config n) wanted found at = ⊥
EndsOther effects (BadLine n) wanted found at = ⊥
EndsOther effects (BadConfig n) wanted found at = ⊥

-- a source that was read up to so many bytes: the whole lines of these were run, and no line behind them is too long yet
pub record EndsRead (effects : Effects) (knots : ℕ) (text : List ℕ) (left_now : Option (List ℕ)) : Type 0 where
  pub taken : ℕ
  pub within : taken ≤ length text
  pub most : taken ≤ most_bytes
  pub short : length (rest_of (take taken text)) ≤ 4096
  pub left : left_now ≡ Some (drop taken text)
  pub ends : EndsEarly effects (start_of knots (whole_lines (take taken text)))

-- `text` is the script, and `left_now` what its source has left
abbrev pub EndsWith : Effects → ℕ → List ℕ → Option (List ℕ) → Status → Type 0
EndsWith effects knots text left_now (Done pending) = (length text ≤ most_bytes) × EndsDone effects (start_in knots text) × (left_now ≡ Some [])
EndsWith effects knots text left_now Usage = effects.untouched × (left_now ≡ Some text)
EndsWith effects knots text left_now (Line n) = EndsLine effects (start_in knots text) n × TakesLine text n left_now
EndsWith effects knots text left_now ScriptRead = EndsRead effects knots text left_now
EndsWith effects knots text left_now OutWrite = EndsInto effects text (start_in knots text) left_now
EndsWith effects knots text left_now MediaMake = EndsMaking effects (start_in knots text) × TakesBegin knots text left_now
EndsWith effects knots text left_now (BadConfiguration n) = EndsConfig effects (start_in knots text) n × TakesBegin knots text left_now
EndsWith effects knots text left_now (OtherConfig wanted found at) = EndsOther effects (start_in knots text) wanted found at × TakesBegin knots text left_now
EndsWith effects knots text left_now ScriptLong = (most_bytes < length text) × EndsEarly effects (start_of knots (lines_read text)) × HasTaken text (most_bytes + 1) left_now
EndsWith effects knots text left_now NoMemory = effects.unbegun (start_in knots text) × ((left_now ≡ Some text) ⊎ TakesBegin knots text left_now)

-- what the script alone decides
abbrev pub ScriptEnds : ℕ → List ℕ → Option (List ℕ) → Status → Type 0
ScriptEnds knots text left_now status = EndsWith unsaid knots text left_now status
