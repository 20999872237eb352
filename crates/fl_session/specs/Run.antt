-- What a session over an opened image does.
use Rattle.std.specs.Prelude.{◌≡◌, ℕ, true, Option, Some, None, List, [], ◌++◌, length}
use Rattle.fl_flash.specs.Media.{MediaState}
use Rattle.fl_model.specs.Record.{Config}
use Rattle.fl_words.specs.Command.{Command}
use Rattle.fl_machine.specs.Machine.{Machine}
use Rattle.fl_script.specs.declared.command.Command as code
use Rattle.fl_config.specs.declared.image.ImageRefusal.{ImageRefusal}
use Rattle.fl_config.specs.declared.image.ImageRefusal.TheVariants.{Media, Other}
use Rattle.fl_lines.specs.Stream.{LinesState}
use Rattle.fl_ends.specs.declared.pending.PendingRows.{PendingRows}
use Rattle.fl_ends.specs.declared.run.Status.{Status}
use Rattle.fl_ends.specs.declared.run.Status.TheVariants.{Done, Line, ScriptRead, OutWrite, MediaMake, OtherConfig, ScriptLong}
use Rattle.fl_session.specs.Execute.{Around, RanAll, RanPart}
use Rattle.fl_session.specs.Loop.{Tail, EndsCommands}

-- the lines from the command on that ended the configuration
abbrev pub tail_of : ℕ → LinesState → List ℕ → Tail
tail_of number state left = record { number = number; first = state.line; text = state.ahead ++ left; taken = length state.ahead; most = state.most; closed = state.closed }

abbrev pub around_of : Config → MediaState → MediaState → Option (List ℕ) → Option (List ℕ) → Around
around_of config old new told told_now = record { config = config; content = old.content; content_now = new.content; faults = old.faults; faults_now = new.faults; reads = old.reads; reads_now = new.reads; told = told; told_now = told_now }

-- nothing was run
pub record RunsNothing (left left_now : Option (List ℕ)) (All : List Command → Type 0) (status : Status) : Type 0 where
  pub pending : PendingRows
  pub done : status ≡ Done pending
  pub untaken : left_now ≡ left
  pub runs : All []

-- the commands from the first on were run, if there is one and the source tells
abbrev pub RunsFrom : Option code.Command → ℕ → LinesState → Option (List ℕ) → Option (List ℕ) → (List Command → Type 0) → (List Command → Type 0) → Status → Type 0
RunsFrom None number state left left_now All Part status = RunsNothing left left_now All status
RunsFrom (Some first) number state left left_now All Part status =
    (l : List ℕ) → left ≡ Some l → (state.closed ≡ true → state.ahead ++ l ≡ []) → EndsCommands (tail_of number state l) left_now All Part status

-- .. from each state for which the session stood
abbrev pub RanFrom : Option code.Command → ℕ → LinesState → Option (List ℕ) → Option (List ℕ) → Around → (Machine → Type 0) → (Machine → Type 0) → Status → Type 0
RanFrom first number state left left_now around stands stands_now status =
    RunsFrom first number state left left_now (λ commands. RanAll around stands stands_now commands) (λ commands. RanPart around stands stands_now commands) status

-- a status of the commands
abbrev pub IsOfCommands : Status → Type 0
IsOfCommands (Done pending) = Unit {0}
IsOfCommands (Line n) = Unit {0}
IsOfCommands ScriptRead = Unit {0}
IsOfCommands OutWrite = Unit {0}
IsOfCommands ScriptLong = Unit {0}
IsOfCommands status = ⊥

-- how a run ends whose image isn't opened
abbrev pub refused_status : ImageRefusal → Status
refused_status Media = MediaMake
refused_status (Other wanted found at) = OtherConfig wanted found at
