-- The lines of an input are answered one after another.
use Rattle.std.specs.Prelude.{◌≡◌, ℕ, ◌^◌, ◌<◌, Bool, true, false, Option, Some, List, [], ◌∷◌, ◌++◌, length}
use Rattle.std.specs.List.{AllByRecursion}
use Rattle.fl_base.specs.Causes.{Appends}
use Rattle.fl_flash.specs.Flash.{FlashState}
use Rattle.fl_model.specs.Record.{Config}
use Rattle.fl_machine.specs.Machine.{Machine}
use Rattle.fl_ends.specs.declared.shell.Flushed.{Flushed}
use Rattle.fl_ends.specs.declared.shell.ShellStatus.{ShellStatus}
use Rattle.fl_ends.specs.declared.shell.ShellStatus.TheVariants.{Done, InputRead, InputLong, OutWrite, Unflushed}
use Rattle.fl_shell.specs.Flushing.{RanThese}
use Rattle.fl_machine.specs.Script.{KeepsReads}
use Rattle.fl_shell.specs.Talk.{Turn, AnswersEach, AreWritten, HasCauses, RanOver, Talked, answers_of, moments_of}
use Rattle.fl_shell.specs.declared.talk.Next.{Next}
use Rattle.fl_shell.specs.declared.talk.Next.TheVariants.{InHand, Unread, Ended}

-- these lines were answered, and what the machine executed is a run of it
pub record TalkedSoFar (config : Config) (old : Machine) (lines : List (List ℕ)) (stands : Machine → Type 0) (content : List ℕ) (faults : ℕ) (flash : FlashState) (told told_now : Option (List ℕ)) : Type 0 where
  pub turns : List Turn
  pub each : AnswersEach config old lines turns
  pub runs : RanThese config old (length lines) (moments_of turns) stands content faults flash
  pub causes : AllByRecursion (HasCauses faults flash.media.faults) turns
  pub told_all : Appends told told_now (answers_of turns)

-- .. and their answers are written, or all but the last one and a front of that, in which the sink failed
pub record Answered (config : Config) (old : Machine) (lines : List (List ℕ)) (whole : Bool) (stands : Machine → Type 0) (content content_now : List ℕ) (faults faults_now : ℕ) (told told_now : Option (List ℕ)) : Type 0 where
  pub turns : List Turn
  pub each : AnswersEach config old lines turns
  pub ran : RanOver config old (moments_of turns) stands content content_now faults faults_now
  pub causes : AllByRecursion (HasCauses faults faults_now) turns
  pub before : List Turn
  pub text : List ℕ
  pub written : AreWritten whole turns before text
  pub told_all : Appends told told_now text
  pub reads : KeepsReads config old (moments_of before)

-- the line in hand, if there is one, and those behind it
abbrev pub with_hand : Bool → List ℕ → List (List ℕ) → List (List ℕ)
with_hand true hand lines = hand ∷ lines
with_hand false hand lines = lines

-- the lines from the next one on
abbrev pub lines_from : Next → List ℕ → List (List ℕ) → List (List ℕ)
lines_from InHand hand lines = hand ∷ lines
lines_from Unread hand lines = lines
lines_from Ended hand lines = []

-- this is so of a front of the lines
abbrev pub OfFront : List (List ℕ) → (List (List ℕ) → Type 0) → Type 0
OfFront all P = (front : List (List ℕ)) × (others : List (List ℕ)) × (front ++ others ≡ all) × P front

-- By the status all lines were answered, or a front of them: whole, or but for the end of the last answer. `P` is what is said of the
-- lines that were answered, and of whether that was whole; `total` is the length of the text.
abbrev pub EndsBy : (List (List ℕ) → Bool → Type 0) → List (List ℕ) → ℕ → Option (List ℕ) → ShellStatus → Type 0
EndsBy P lines total left_now Done = P lines true × (left_now ≡ Some [])
EndsBy P lines total left_now Unflushed = P lines true × (left_now ≡ Some [])
EndsBy P lines total left_now InputRead = OfFront lines (λ front. P front true)
EndsBy P lines total left_now InputLong = (2 ^ 44 < total) × OfFront lines (λ front. P front true)
EndsBy P lines total left_now OutWrite = OfFront lines (λ front. P front false)
EndsBy P lines total left_now status = ⊥

-- before anything is flushed
abbrev pub TalkEnds : Config → Machine → List (List ℕ) → ℕ → (Machine → Type 0) → List ℕ → List ℕ → ℕ → ℕ → Option (List ℕ) → Option (List ℕ) → Option (List ℕ) → ShellStatus → Type 0
TalkEnds config old lines total stands content content_now faults faults_now told told_now left_now status =
    EndsBy (λ front whole. Answered config old front whole stands content content_now faults faults_now told told_now) lines total left_now status

-- at the end of the input the status tells whether all was flushed
abbrev pub TellsFlushed : Flushed → ShellStatus → Type 0
TellsFlushed flushed Done = flushed.all ≡ true
TellsFlushed flushed Unflushed = flushed.all ≡ false
TellsFlushed flushed status = Unit {0}

-- .. and where what was pending was flushed then
abbrev pub MediumEnds : Config → Machine → List (List ℕ) → ℕ → (Machine → Type 0) → List ℕ → List ℕ → ℕ → ℕ → Option (List ℕ) → Option (List ℕ) → Option (List ℕ) → Flushed → ShellStatus → Type 0
MediumEnds config old lines total stands content content_now faults faults_now told told_now left_now flushed status =
    EndsBy (λ front whole. Talked config old front whole flushed stands content content_now faults faults_now told told_now) lines total left_now status
    × TellsFlushed flushed status
