-- How a run over a script and a medium ends, by its status.
use Rattle.std.specs.Prelude.{◌≡◌, ℕ, ◌+◌, ◌≤◌, ◌⊎◌, Option, Some, List, [], length, take}
use Rattle.fl_base.specs.Causes.{Rose, Appends}
use Rattle.fl_flash.specs.Media.{MediaState}
use Rattle.fl_model.specs.Record.{Config}
use Rattle.fl_model.specs.Image.{medium_len}
use Rattle.fl_words.specs.Command.{Command}
use Rattle.fl_words.specs.Medium.{header}
use Rattle.fl_machine.specs.Machine.{Machine}
use Rattle.fl_machine.specs.Script.{Start, Ready, Unended, BadLine, BadConfig, StandsFor, StandsAfter}
use Rattle.fl_machine.specs.WholeReads.{RanReading, RanIntoReading}
use Rattle.fl_config.specs.Opening.{Differs}
use Rattle.fl_store.specs.NewImage.{new_image, made_image}
use Rattle.fl_ends.specs.declared.run.Status.{Status}
use Rattle.fl_ends.specs.declared.run.Status.TheVariants.{Usage, MediaMake, Config as BadConfiguration, OtherConfig, NoMemory}
use Rattle.fl_session.specs.Determined.{IsUncut, RanPlainly, RanPlainlyInto}
use Rattle.fl_session.specs.Pending.{EndsAt}
use Rattle.fl_session.specs.ScriptEnds.{Effects, EndsWith}

-- what the outside tells before and after: the medium's content, what the source has left, the bytes that are written,
-- and how often the medium failed and was read
pub record Told : Type 0 where
  pub content : List ℕ
  pub content_now : List ℕ
  pub left_now : Option (List ℕ)
  pub written : Option (List ℕ)
  pub written_now : Option (List ℕ)
  pub faults : ℕ
  pub faults_now : ℕ
  pub reads : ℕ
  pub reads_now : ℕ

-- nothing was written, and the medium is as it was
pub record IsUntouched (told : Told) : Type 0 where
  pub content : told.content_now ≡ told.content
  pub written : Appends told.written told.written_now []

-- the medium's count of faults didn't rise
abbrev pub IsCalm : Told → Type 0
IsCalm told = Rose told.faults told.faults_now → ⊥

-- a medium has the length and the header of the configuration
abbrev pub IsFormed : Config → List ℕ → Type 0
IsFormed config content = (length content ≡ medium_len config) × (take 1024 content ≡ header config)

-- .. or is empty
abbrev pub IsOwn : Config → List ℕ → Type 0
IsOwn config content = (content ≡ []) ⊎ IsFormed config content

-- From each state for which the medium stands these commands were run, and it stands for the state after them, of which the
-- status tells what is pending. Its length and its header are those of the configuration, whatever stands behind them. Of the
-- medium's reads one is for the header, and the others are those of the commands.
pub record RunsAll (config : Config) (commands : List Command) (told : Told) (status : Status) : Type 0 where
  pub own : IsOwn config told.content
  pub formed : IsFormed config told.content_now
  pub runs : (old : Machine) → StandsFor config told.content old →
      RanReading config old commands (EndsAt config status told.content_now) (made_image config told.content) told.content_now told.faults told.faults_now (told.reads + 1) told.reads_now told.written told.written_now
  -- where the medium doesn't fail and no cut falls into an operation, as the plain machine runs them
  pub plain : IsCalm told → (old : Machine) → StandsFor config told.content old → IsUncut config old commands →
      RanPlainly config old commands status (made_image config told.content) told.content_now told.written told.written_now

-- .. and in the reply of the last of them the sink failed
pub record RunsInto (config : Config) (commands : List Command) (told : Told) : Type 0 where
  pub own : IsOwn config told.content
  pub formed : IsFormed config told.content_now
  pub runs : (old : Machine) → StandsFor config told.content old →
      RanIntoReading config old commands (StandsAfter config (Some told.content_now)) (made_image config told.content) told.content_now told.faults told.faults_now (told.reads + 1) told.reads_now told.written told.written_now
  pub plain : IsCalm told → (old : Machine) → StandsFor config told.content old → IsUncut config old commands →
      RanPlainlyInto config old commands (made_image config told.content) told.content_now told.written told.written_now

-- a medium of another configuration: its length or its header
abbrev pub IsOther : Config → List ℕ → ℕ → ℕ → ℕ → Type 0
IsOther config content wanted found at =
    (content ≡ [] → ⊥)
    × (((wanted ≡ medium_len config) × (found ≡ length content) × (at ≡ 1024) × (wanted ≡ found → ⊥))
    ⊎ ((length content ≡ medium_len config) × Differs (header config) (take 1024 content) at wanted found))

abbrev pub IsNew : Start → Told → Type 0
IsNew (Ready config n lines) told = (told.content ≡ []) × (told.content_now ≡ new_image config)
IsNew (Unended config n) told = ⊥
IsNew (BadLine n) told = ⊥
IsNew (BadConfig n) told = ⊥

-- the medium failed while the header or the blank image was read or written
pub record IsMakingFailed (config : Config) (told : Told) : Type 0 where
  pub written : Appends told.written told.written_now []
  pub kept : (told.content ≡ [] → ⊥) → told.content_now ≡ told.content
  pub part : (told.content ≡ []) → length told.content_now ≤ medium_len config

-- what is said of the medium, of the replies and of the status
abbrev pub effects_of : Told → Status → Effects
effects_of told status = record {
  all = λ config commands. RunsAll config commands told status;
  into = λ config commands. RunsInto config commands told;
  untouched = IsUntouched told;
  making = λ config. IsMakingFailed config told;
  other = λ config wanted found at. IsOther config told.content wanted found at × IsUntouched told;
  unbegun = λ start. Appends told.written told.written_now [] × ((told.content_now ≡ told.content) ⊎ IsNew start told);
}

-- `text` is the script
abbrev pub Ends : ℕ → List ℕ → Told → Status → Type 0
Ends knots text told status = EndsWith (effects_of told status) knots text told.left_now status

-- what the outside told before and after
abbrev pub told_of : MediaState → MediaState → Option (List ℕ) → Option (List ℕ) → Option (List ℕ) → Told
told_of old new left_now written written_now = record {
  content = old.content;
  content_now = new.content;
  left_now = left_now;
  written = written;
  written_now = written_now;
  faults = old.faults;
  faults_now = new.faults;
  reads = old.reads;
  reads_now = new.reads;
}

-- The early statuses, whoever tells the script. Nothing was written, and the medium is unchanged
pub record IsEarly (old new : MediaState) (told told_now : Option (List ℕ)) : Type 0 where
  pub written : Appends told told_now []
  pub content : new.content ≡ old.content

-- .. or it was empty before it was made
pub record IsHalfMade (old new : MediaState) (told told_now : Option (List ℕ)) : Type 0 where
  pub written : Appends told told_now []
  pub content : (old.content ≡ [] → ⊥) → new.content ≡ old.content

-- .. or it is unchanged or newly made and blank
pub record IsMadeAtMost (old new : MediaState) (told told_now : Option (List ℕ)) : Type 0 where
  pub written : Appends told told_now []
  pub content : (new.content ≡ old.content) ⊎ ((old.content ≡ []) × ((config : Config) × (new.content ≡ new_image config)))

abbrev pub IsEarlyBy : MediaState → MediaState → Option (List ℕ) → Option (List ℕ) → Status → Type 0
IsEarlyBy old new told told_now Usage = IsEarly old new told told_now
IsEarlyBy old new told told_now (BadConfiguration n) = IsEarly old new told told_now
IsEarlyBy old new told told_now (OtherConfig wanted found at) = IsEarly old new told told_now
IsEarlyBy old new told told_now MediaMake = IsHalfMade old new told told_now
IsEarlyBy old new told told_now NoMemory = IsMadeAtMost old new told told_now
IsEarlyBy old new told told_now status = Unit {0}
