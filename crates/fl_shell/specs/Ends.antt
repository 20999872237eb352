-- How a shell ends, by its status.
use Rattle.std.specs.Prelude.{◌≡◌, ℕ, ◌^◌, ◌<◌, ◌≤◌, ◌⊎◌, true, IsTrue, Option, Some, List, [], ◌∷◌, ◌++◌, length}
use Rattle.fl_base.specs.Causes.{Appends, IsFront}
use Rattle.fl_config.specs.Whole.{is_whole}
use Rattle.fl_flash.specs.Media.{MediaState}
use Rattle.fl_image.specs.Header.{IsAccepted}
use Rattle.fl_image.specs.Image.{IsImageOf}
use Rattle.fl_machine.specs.Machine.{Machine}
use Rattle.fl_machine.specs.Script.{StandsFor, StandsAfter}
use Rattle.fl_model.specs.Image.{medium_len}
use Rattle.fl_model.specs.Record.{Config}
use Rattle.fl_ends.specs.declared.shell.Flushed.{Flushed}
use Rattle.fl_ends.specs.declared.shell.ShellStatus.{ShellStatus}
use Rattle.fl_ends.specs.declared.shell.ShellStatus.TheVariants.{Done, InputRead, OutWrite, MediaMake, Unconfigured, InputLong, NoMemory, NotImage, Unflushed}
use Rattle.fl_session.specs.Ends.{Told, IsFormed, IsUntouched}
use Rattle.fl_words.specs.Config.{Lines, no_lines, whole}
use Rattle.fl_words.specs.Grammar.{lines_of}
use Rattle.fl_store.specs.NewImage.{made_image}
use Rattle.fl_shell.specs.Begin.{Leads, LeadsTo, IsEnded, step_of}
use Rattle.fl_shell.specs.Talking.{MediumEnds, OfFront}

-- the front of the lines leads to this configuration, which the first of the others ends
abbrev pub LeadsFront : Lines → List (List ℕ) → List (List ℕ) → List ℕ → Type 0
LeadsFront made lines others answers = (front : List (List ℕ)) × (front ++ others ≡ lines) × Leads no_lines front answers made × IsEnded made others

-- The configuration of the image on a medium that holds this, with the lines behind it, and the answers to those before: that of
-- its header, whose lines are accepted, or that of the leading lines over an empty medium.
pub record BeginsWith (knots : ℕ) (content : List ℕ) (lines : List (List ℕ)) (config : Config) (others : List (List ℕ)) (answers : List ℕ) : Type 0 where
  pub made : Lines
  pub makes : whole knots made ≡ Some config
  pub begins : ((content ≡ []) × LeadsFront made lines others answers) ⊎ (IsAccepted made × IsImageOf content made × (others ≡ lines) × (answers ≡ []))

-- A configuration was made or found. From each state for which the medium stands the lines behind it were answered as the status
-- says, and what was pending was flushed; `text` is the input.
pub record Ended (knots : ℕ) (text : List ℕ) (flushed : Flushed) (status : ShellStatus) (told : Told) : Type 0 where
  pub config : Config
  pub others : List (List ℕ)
  pub answers : List ℕ
  pub begins : BeginsWith knots told.content (lines_of text) config others answers
  pub formed : IsFormed config told.content_now
  pub begun : Option (List ℕ)
  pub begun_told : Appends told.written begun answers
  pub talks : (old : Machine) → StandsFor config told.content old →
      MediumEnds config old others (length text) (StandsAfter config (Some told.content_now)) (made_image config told.content) told.content_now told.faults told.faults_now begun told.written_now told.left_now flushed status

-- nothing but leading lines of a configuration was answered, over an empty medium, and no image was made
pub record Unbegun (lines : List (List ℕ)) (made : Lines) (told : Told) : Type 0 where
  pub empty : told.content ≡ []
  pub unmade : told.content_now ≡ []
  pub answers : List ℕ
  pub leads : Leads no_lines lines answers made
  pub written : Appends told.written told.written_now answers

-- .. up to a line in whose answer the sink failed
pub record UnbegunInto (lines : List (List ℕ)) (told : Told) : Type 0 where
  pub empty : told.content ≡ []
  pub unmade : told.content_now ≡ []
  pub before : List (List ℕ)
  pub last : List ℕ
  pub split : lines ≡ before ++ last ∷ []
  pub made : Lines
  pub answers : List ℕ
  pub leads : Leads no_lines before answers made
  pub after : Lines
  pub answer : List ℕ
  pub leads_last : LeadsTo made (step_of made last) answer after
  pub front : List ℕ
  pub is_front : IsFront front answer
  pub written : Appends told.written told.written_now (answers ++ front)

-- the medium failed while the image was made: one that held bytes is as it was
pub record HalfMade (knots : ℕ) (lines : List (List ℕ)) (told : Told) : Type 0 where
  pub config : Config
  pub others : List (List ℕ)
  pub answers : List ℕ
  pub begins : BeginsWith knots told.content lines config others answers
  pub written : Appends told.written told.written_now answers
  pub kept : (told.content ≡ [] → ⊥) → told.content_now ≡ told.content
  pub part : told.content ≡ [] → length told.content_now ≤ medium_len config

-- no configuration has images of this length that begin with this header
abbrev pub IsNoImage : List ℕ → Type 0
IsNoImage content = (lines : Lines) → IsAccepted lines → IsImageOf content lines → ⊥

-- no more than leading lines was read
abbrev pub EndedEarly : List ℕ → Told → Type 0
EndedEarly text told = OfFront (lines_of text) (λ lines. (made : Lines) × Unbegun lines made told)

-- no session was begun, so nothing was pending
abbrev pub none_pending : Flushed
none_pending = record { pending = 0; all = true }

-- `text` is the input
abbrev pub ShellEnds : ℕ → List ℕ → Told → Flushed → ShellStatus → Type 0
ShellEnds knots text told flushed Done = Ended knots text flushed Done told
ShellEnds knots text told flushed Unflushed = Ended knots text flushed Unflushed told
-- the lines that were read whole were answered
ShellEnds knots text told flushed InputRead = Ended knots text flushed InputRead told ⊎ ((flushed ≡ none_pending) × EndedEarly text told)
ShellEnds knots text told flushed InputLong = Ended knots text flushed InputLong told ⊎ ((flushed ≡ none_pending) × (2 ^ 44 < length text) × EndedEarly text told)
-- the answers before one in which the sink failed are written, and a front of that one
ShellEnds knots text told flushed OutWrite = Ended knots text flushed OutWrite told ⊎ ((flushed ≡ none_pending) × OfFront (lines_of text) (λ lines. UnbegunInto lines told))
ShellEnds knots text told flushed MediaMake = (flushed ≡ none_pending) × (((told.content ≡ [] → ⊥) × IsUntouched told) ⊎ HalfMade knots (lines_of text) told)
ShellEnds knots text told flushed Unconfigured = (flushed ≡ none_pending) × ((made : Lines) × Unbegun (lines_of text) made told × (IsTrue (is_whole made) → ⊥)) × (told.left_now ≡ Some [])
ShellEnds knots text told flushed NoMemory = (flushed ≡ none_pending) × (IsUntouched told ⊎ EndedEarly text told)
ShellEnds knots text told flushed NotImage = (flushed ≡ none_pending) × (told.content ≡ [] → ⊥) × IsUntouched told × IsNoImage told.content

-- the statuses before the image was opened: the medium is unchanged, or was empty where it failed while the image was made
abbrev pub IsEarlyBy : MediaState → MediaState → ShellStatus → Type 0
IsEarlyBy old new Unconfigured = new.content ≡ old.content
IsEarlyBy old new NoMemory = new.content ≡ old.content
IsEarlyBy old new NotImage = new.content ≡ old.content
IsEarlyBy old new MediaMake = (old.content ≡ [] → ⊥) → new.content ≡ old.content
IsEarlyBy old new status = Unit {0}
