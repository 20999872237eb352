-- The leading lines of a shell are taken one after another, and how they end.
use Rattle.std.specs.Prelude.{◌≡◌, ℕ, ◌^◌, ◌<◌, IsTrue, Option, Some, Result, Ok, Err, List, [], ◌∷◌, ◌++◌}
use Rattle.fl_base.specs.Causes.{Appends, IsFront}
use Rattle.fl_config.specs.Whole.{is_whole}
use Rattle.fl_image.specs.Header.{IsAccepted}
use Rattle.fl_image.specs.Image.{IsImageOf}
use Rattle.fl_lines.specs.Stream.{LinesState}
use Rattle.fl_words.specs.Config.{Lines, no_lines}
use Rattle.fl_words.specs.Grammar.{lines_of}
use Rattle.fl_ends.specs.declared.shell.ShellStatus.{ShellStatus}
use Rattle.fl_ends.specs.declared.shell.ShellStatus.TheVariants.{InputRead, OutWrite, MediaMake, Unconfigured, InputLong, NotImage}
use Rattle.fl_shell.specs.Begin.{Step, Ends, Leads, LeadsBy, LeadsTo, IsEnded, step_of}
use Rattle.fl_shell.specs.Reading.{IsGivenAs, IsLeft, rest_in}
use Rattle.fl_shell.specs.Talking.{OfFront, lines_from}
use Rattle.fl_shell.specs.declared.begin.Begun.{Begun}
use Rattle.fl_shell.specs.declared.begin.Step as code
use Rattle.fl_shell.specs.declared.talk.Next.TheVariants.{Ended}

-- the lines go on where the answer was written
abbrev pub going_on : {E : Type 0} → Result (Unit {0}) E → Result code.Step E
going_on (Ok done) = Ok code.TheVariants.GoesOn
going_on (Err failed) = Err failed

-- a line goes on with the configuration, or ends it
abbrev pub TakesBy : {E : Type 0} → Lines → Step → Result code.Step E → Lines → Option (List ℕ) → Option (List ℕ) → Type 0
TakesBy {E} before step (Ok code.TheVariants.GoesOn) after told told_now = LeadsBy {E = E} before step after told told_now (Ok tt)
TakesBy {E} before step (Ok code.TheVariants.Ends) after told told_now = (step ≡ Ends) × IsTrue (is_whole before) × (after ≡ before) × (told_now ≡ told)
TakesBy {E} before step (Err failed) after told told_now = LeadsBy {E = E} before step after told told_now (Err failed)

-- these lines were answered so far
pub record Led (lines : List (List ℕ)) (made : Lines) (told told_now : Option (List ℕ)) : Type 0 where
  pub answers : List ℕ
  pub leads : Leads no_lines lines answers made
  pub written : Appends told told_now answers

-- .. up to a line in whose answer the sink failed
pub record LedInto (lines : List (List ℕ)) (told told_now : Option (List ℕ)) : Type 0 where
  pub before : List (List ℕ)
  pub last : List ℕ
  pub split : lines ≡ before ++ last ∷ []
  pub made : Lines
  pub answers : List ℕ
  pub leads : Leads no_lines before answers made
  pub after : Lines
  pub answer : List ℕ
  pub leads_last : LeadsTo made (step_of made last) answer after
  pub front : List ℕ
  pub is_front : IsFront front answer
  pub written : Appends told told_now (answers ++ front)

-- what is left of the input behind the lines that made a configuration
pub record LeavesOn (begun : Begun) (total : ℕ) (new : LinesState) (left_now : Option (List ℕ)) : Type 0 where
  pub rest : List ℕ
  pub rest_told : left_now ≡ Some rest
  pub ended : begun.next ≡ Ended → rest ≡ []
  pub within : (begun.next ≡ Ended → ⊥) → IsLeft new rest (2 ^ 44) total
  pub hand : List ℕ
  pub hand_is : IsGivenAs hand new.line

-- the lines from the next one on
abbrev pub others_of : (begun : Begun) (total : ℕ) (new : LinesState) (left_now : Option (List ℕ)) → LeavesOn begun total new left_now → List (List ℕ)
others_of begun total new left_now h = lines_from begun.next h.hand (lines_of (rest_in new h.rest))

-- the leading lines made a configuration
pub record Configures (all : List (List ℕ)) (total : ℕ) (begun : Begun) (new : LinesState) (left_now told told_now : Option (List ℕ)) : Type 0 where
  pub leaves : LeavesOn begun total new left_now
  pub front : List (List ℕ)
  pub split : front ++ others_of begun total new left_now leaves ≡ all
  pub led : Led front begun.config told told_now
  pub is_ended : IsEnded begun.config (others_of begun total new left_now leaves)

-- `all` are the lines of a text of this length
abbrev pub LeadsAs : List (List ℕ) → ℕ → Result Begun ShellStatus → LinesState → Option (List ℕ) → Option (List ℕ) → Option (List ℕ) → Type 0
LeadsAs all total (Ok begun) new left_now told told_now = Configures all total begun new left_now told told_now
LeadsAs all total (Err InputRead) new left_now told told_now = OfFront all (λ front. (made : Lines) × Led front made told told_now)
LeadsAs all total (Err InputLong) new left_now told told_now = (2 ^ 44 < total) × OfFront all (λ front. (made : Lines) × Led front made told told_now)
LeadsAs all total (Err OutWrite) new left_now told told_now = OfFront all (λ front. LedInto front told told_now)
LeadsAs all total (Err Unconfigured) new left_now told told_now = ((made : Lines) × Led all made told told_now × (IsTrue (is_whole made) → ⊥)) × (left_now ≡ Some [])
LeadsAs all total (Err status) new left_now told told_now = ⊥

-- the configuration is that of the header
pub record IsOfHeader (content : List ℕ) (all : List (List ℕ)) (total : ℕ) (begun : Begun) (new : LinesState) (left_now told told_now : Option (List ℕ)) : Type 0 where
  pub leaves : LeavesOn begun total new left_now
  pub others : others_of begun total new left_now leaves ≡ all
  pub accepted : IsAccepted begun.config
  pub image : IsImageOf content begun.config
  pub silent : told_now ≡ told

-- the medium holds this
abbrev pub BeginsAs : List ℕ → List (List ℕ) → ℕ → Result Begun ShellStatus → LinesState → Option (List ℕ) → Option (List ℕ) → Option (List ℕ) → Type 0
BeginsAs [] all total result new left_now told told_now = LeadsAs all total result new left_now told told_now
BeginsAs (byte ∷ bytes) all total (Ok begun) new left_now told told_now = IsOfHeader (byte ∷ bytes) all total begun new left_now told told_now
BeginsAs (byte ∷ bytes) all total (Err NotImage) new left_now told told_now = ((lines : Lines) → IsAccepted lines → IsImageOf (byte ∷ bytes) lines → ⊥) × (told_now ≡ told)
BeginsAs (byte ∷ bytes) all total (Err status) new left_now told told_now = (status ≡ MediaMake) × (told_now ≡ told)
