-- What the commands of a script answer and leave one after another, and why, over any bytes and on any medium.
use Rattle.std.specs.Prelude.{◌≡◌, ℕ, false, Option, Some, Ok, Err, List, [], ◌∷◌, ◌++◌}
use Rattle.fl_base.specs.declared.stream.SinkFailed.{SinkFailed}
use Rattle.fl_flash.specs.Flash.{Stays}
use Rattle.fl_flash.specs.Media.{MediaState}
use Rattle.fl_model.specs.Record.{Config}
use Rattle.fl_words.specs.Command.{Command}
use Rattle.fl_words.specs.Config.{Lines, whole}
use Rattle.fl_store.specs.Store.{IsOpened}
use Rattle.fl_store.specs.Tables.{AreNewTables}
use Rattle.fl_ends.specs.declared.run.Status.{Status}
use Rattle.fl_session.specs.Caused.{Caused, IsPowered, State}
use Rattle.fl_session.specs.Notes.{no_notes}
use Rattle.fl_session.specs.Opening.{Foreign, HalfOpened, MediaGoes, Opened}
use Rattle.fl_session.specs.ScriptEnds.{Effects, EndsWith}
use Rattle.fl_session.specs.Told.{TellsRows}

-- A session over a medium that was just made for these lines: its tables were never mounted, no cursor is open, no cost is noted. Its
-- flash is on, no cut is armed, and nothing was done on it.
pub record IsNewSession (lines : Lines) (medium : MediaState) (s : State) : Type 0 where
  pub tables : AreNewTables s.entries lines
  pub down : s.mounted ≡ false
  pub notes : s.notes ≡ no_notes
  pub flash : IsOpened lines medium s.flash

-- Each of these commands has its cause: it was executed in the state that those before it left, with the power on where something
-- was mounted, and its replies stand behind theirs.
abbrev pub CausedEach : List Command → State → State → Option (List ℕ) → Option (List ℕ) → Type 0
CausedEach [] old new told told_now = (new ≡ old) × (told_now ≡ told)
CausedEach (command ∷ commands) old new told told_now =
    (mid : State) × (told_mid : Option (List ℕ)) × IsPowered old × Caused {E = SinkFailed} command old mid told told_mid (Ok tt) × CausedEach commands mid new told_mid told_now

-- .. and in the reply of the last of them the sink failed
pub record CausedInto (commands : List Command) (old new : State) (told told_now : Option (List ℕ)) : Type 0 where
  pub before : List Command
  pub last : Command
  pub split : commands ≡ before ++ last ∷ []
  pub mid : State
  pub told_mid : Option (List ℕ)
  pub each : CausedEach before old mid told told_mid
  pub powered : IsPowered mid
  pub failed : SinkFailed
  pub cause : Caused last mid new told_mid told_now (Err failed)

-- A session was begun over an opened medium, and left it as it is now: these were its states then.
pub record SessionOver (lines : Lines) (opened new : MediaState) (Executed : State → State → Type 0) : Type 0 where
  pub begin : State
  pub begun : IsNewSession lines opened begin
  pub end : State
  pub executed : Executed begin end
  -- the bytes before and behind the flash's pages stand, and no count falls
  pub goes : Stays begin.flash end.flash
  pub left : end.flash.media ≡ new

-- .. over a medium whose image was opened, or made where the medium was empty
pub record RunOver (knots : ℕ) (config : Config) (old new : MediaState) (Executed : State → State → Type 0) : Type 0 where
  pub lines : Lines
  pub lines_are : whole knots lines ≡ Some config
  pub opened : MediaState
  pub opens : Opened config old opened
  pub opening : MediaGoes old opened
  pub session : SessionOver lines opened new Executed

-- What is said of the commands that were run; the status tells the rows that are pending after them, where it tells any. Where the
-- run ended before the first of them, the sink is as it was, and so is the medium but where it failed while it was made.
abbrev pub causes_of : ℕ → MediaState → MediaState → Option (List ℕ) → Option (List ℕ) → Status → Effects
causes_of knots old new told told_now status = record {
  all = λ config commands. RunOver knots config old new (λ begin end. CausedEach commands begin end told told_now × TellsRows end status);
  into = λ config commands. RunOver knots config old new (λ begin end. CausedInto commands begin end told told_now);
  untouched = (new ≡ old) × (told_now ≡ told);
  making = λ config. (told_now ≡ told) × HalfOpened config old new;
  other = λ config wanted found at. (told_now ≡ told) × Foreign config old new wanted found at;
  unbegun = λ start. (new ≡ old) × (told_now ≡ told);
}

-- Each command of the script that was run has its cause. `text` is the script.
abbrev pub EndsCaused : ℕ → List ℕ → MediaState → MediaState → Option (List ℕ) → Option (List ℕ) → Option (List ℕ) → Status → Type 0
EndsCaused knots text old new left_now told told_now status = EndsWith (causes_of knots old new told told_now status) knots text left_now status
