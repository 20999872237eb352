-- Why a shell ends so, over any bytes.
use Rattle.std.specs.Prelude.{◌≡◌, ◌⊎◌, ℕ, Option, Some, List, length, map}
use Rattle.fl_base.specs.Causes.{Appends}
use Rattle.fl_flash.specs.Media.{MediaState}
use Rattle.fl_image.specs.Image.{OnlyLooksAt}
use Rattle.fl_model.specs.Record.{Config, Plan}
use Rattle.fl_ends.specs.declared.shell.Flushed.{Flushed}
use Rattle.fl_ends.specs.declared.shell.ShellStatus.{ShellStatus}
use Rattle.fl_ends.specs.declared.shell.ShellStatus.TheVariants.{Done, InputRead, OutWrite, InputLong, Unflushed}
use Rattle.fl_session.specs.CausedEach.{SessionOver}
use Rattle.fl_session.specs.Opening.{MediaGoes, Opened}
use Rattle.fl_words.specs.Config.{Lines, whole}
use Rattle.fl_words.specs.Grammar.{lines_of}
use Rattle.fl_shell.specs.Caused.{TalkedOver}
use Rattle.fl_shell.specs.Ends.{BeginsWith, none_pending}
use Rattle.fl_shell.specs.Talking.{EndsBy, TellsFlushed}

-- the names of a configuration's tables, in their order
abbrev pub names_of : Lines → List (List ℕ)
names_of lines = map (λ (plan : Plan). plan.name) lines.plans

-- By the status all lines were answered, or a front of them, by a session over an opened medium, which left that as it is now; and what was
-- pending was flushed.
abbrev pub SessionEnds : Lines → MediaState → MediaState → List (List ℕ) → ℕ → Option (List ℕ) → Option (List ℕ) → Option (List ℕ) → Flushed → ShellStatus → Type 0
SessionEnds lines opened new all total told told_now left_now flushed status =
    EndsBy (λ front whole. SessionOver lines opened new (TalkedOver (names_of lines) front whole flushed told told_now)) all total left_now status × TellsFlushed flushed status

-- A configuration was made or found; the image was opened, or made where the medium was empty, and the lines behind the configuration were
-- answered.
pub record CausedOver (knots : ℕ) (text : List ℕ) (old new : MediaState) (left_now told told_now : Option (List ℕ)) (flushed : Flushed) (status : ShellStatus) : Type 0 where
  pub config : Config
  pub others : List (List ℕ)
  pub answers : List ℕ
  pub begins : BeginsWith knots old.content (lines_of text) config others answers
  pub begun : Option (List ℕ)
  pub begun_told : Appends told begun answers
  pub lines : Lines
  pub lines_are : whole knots lines ≡ Some config
  pub looked : MediaState
  pub looks : OnlyLooksAt old looked
  pub opened : MediaState
  pub opens : Opened config looked opened
  pub opening : MediaGoes looked opened
  pub session : SessionEnds lines opened new others (length text) begun told_now left_now flushed status

-- .. or no session was begun, and the medium was only looked at
abbrev pub MayBegin : ℕ → List ℕ → MediaState → MediaState → Option (List ℕ) → Option (List ℕ) → Option (List ℕ) → Flushed → ShellStatus → Type 0
MayBegin knots text old new left_now told told_now flushed status = CausedOver knots text old new left_now told told_now flushed status ⊎ ((flushed ≡ none_pending) × OnlyLooksAt old new)

-- Each line that was answered has its cause, and so has each flush at the end. `text` is the input. The other statuses begin no session.
abbrev pub ShellCaused : ℕ → List ℕ → MediaState → MediaState → Option (List ℕ) → Option (List ℕ) → Option (List ℕ) → Flushed → ShellStatus → Type 0
ShellCaused knots text old new left_now told told_now flushed Done = CausedOver knots text old new left_now told told_now flushed Done
ShellCaused knots text old new left_now told told_now flushed Unflushed = CausedOver knots text old new left_now told told_now flushed Unflushed
ShellCaused knots text old new left_now told told_now flushed InputRead = MayBegin knots text old new left_now told told_now flushed InputRead
ShellCaused knots text old new left_now told told_now flushed InputLong = MayBegin knots text old new left_now told told_now flushed InputLong
ShellCaused knots text old new left_now told told_now flushed OutWrite = MayBegin knots text old new left_now told told_now flushed OutWrite
ShellCaused knots text old new left_now told told_now flushed status = flushed ≡ none_pending
