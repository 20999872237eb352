-- What a job leaves that mounts nothing, or whose mount fails; and what it keeps in any case.
use Rattle.std.specs.Prelude.{◌≡◌, ◌⊎◌, ℕ, ◌≤◌, IsTrue, Bool, true, Option, List, [], length, take, map}
use Rattle.fl_base.specs.Causes.{Rose, Appends}
use Rattle.fl_flash.specs.Media.{MediaState}
use Rattle.fl_model.specs.Mount.{Mounts, Stopped, Unread, turns_from}
use Rattle.fl_model.specs.Record.{Plan}
use Rattle.fl_model.specs.Table.{Table, lose}
use Rattle.fl_model.specs.Work.{Progress}
use Rattle.fl_store.specs.Named.{has_name}
use Rattle.fl_store.specs.Store.{at_rest}

-- what stays of a medium, whatever is repaired behind its header
pub record Keeps (old new : MediaState) : Type 0 where
  pub tells : new.tells ≡ old.tells
  pub len : length new.content ≡ length old.content
  pub head : IsTrue old.tells → take 1024 new.content ≡ take 1024 old.content
  pub later : old.faults ≤ new.faults

-- the bytes that are written and the medium's faults, before and after
pub record Told : Type 0 where
  pub written : Option (List ℕ)
  pub written_now : Option (List ℕ)
  pub faults : ℕ
  pub faults_now : ℕ

abbrev pub told_of : MediaState → MediaState → Option (List ℕ) → Option (List ℕ) → Told
told_of old new told told_now = record { written = told; written_now = told_now; faults = old.faults; faults_now = new.faults }

-- One of the tables has the name, but an operation or a read of the mount failed, and nothing was written. `Holds` says for
-- which tables the medium stands at the end: those that were left, without what is in memory alone.
pub record MountFails (plans : List Plan) (tables : List Table) (name : List ℕ) (told : Told) (Holds : List Table → Type 0) : Type 0 where
  pub named : has_name name plans ≡ true
  pub rose : Bool
  pub risen : IsTrue rose → Rose told.faults told.faults_now
  pub end : Progress
  pub did : Mounts plans rose (turns_from 0 plans) at_rest tables (Stopped end) ⊎ Mounts plans rose (turns_from 0 plans) at_rest tables (Unread end)
  pub holds : Holds (map lose end.tables)
  pub nothing : Appends told.written told.written_now []

-- nothing was mounted and nothing written
pub record IsUntouched (content content_now : List ℕ) (told : Told) : Type 0 where
  pub same : content_now ≡ content
  pub nothing : Appends told.written told.written_now []
