-- What the opening of an image does to its medium.
use Rattle.std.specs.Prelude.{◌≡◌, ℕ, ◌+◌, ◌≤◌, ◌⊎◌, IsTrue, Result, Ok, Err, [], length, take}
use Rattle.fl_config.specs.declared.image.ImageRefusal.{ImageRefusal}
use Rattle.fl_config.specs.declared.image.ImageRefusal.TheVariants.{Media, Other}
use Rattle.fl_base.specs.Causes.{Rose}
use Rattle.fl_model.specs.Record.{Config}
use Rattle.fl_model.specs.Image.{medium_len}
use Rattle.fl_flash.specs.Media.{MediaState}
use Rattle.fl_words.specs.Medium.{header}
use Rattle.fl_config.specs.Opening.{Differs}
use Rattle.fl_store.specs.NewImage.{new_image}
use Rattle.fl_session.specs.Ends.{IsOwn}

-- An empty medium was made, and another is one of the configuration, and was read once at most.
pub record Opened (config : Config) (old new : MediaState) : Type 0 where
  pub len : length new.content ≡ medium_len config
  pub sized : (old.content ≡ []) ⊎ (length old.content ≡ medium_len config)
  pub own : IsTrue old.tells → IsOwn config old.content
  pub made : IsTrue old.tells → old.content ≡ [] → new.content ≡ new_image config
  pub kept : (old.content ≡ [] → ⊥) → new.content ≡ old.content
  pub reads : new.reads ≤ old.reads + 1

-- The medium failed: it is unchanged, and was read once at most, or it was empty and is made in part, without a read.
pub record HalfOpened (config : Config) (old new : MediaState) : Type 0 where
  pub rose : Rose old.faults new.faults
  pub kept : (old.content ≡ [] → ⊥) → new.content ≡ old.content
  pub part : old.content ≡ [] → length new.content ≤ medium_len config
  pub unread : old.content ≡ [] → new.reads ≡ old.reads
  pub reads : new.reads ≤ old.reads + 1

-- The medium is another's: it isn't empty, and has another length, of which both are told, or the length and, as far as it tells
-- its bytes, another header. It is unchanged, and was read once at most.
pub record Foreign (config : Config) (old new : MediaState) (wanted found at : ℕ) : Type 0 where
  pub some : old.content ≡ [] → ⊥
  pub other : ((wanted ≡ medium_len config) × (found ≡ length old.content) × (at ≡ 1024) × (wanted ≡ found → ⊥))
      ⊎ ((length old.content ≡ medium_len config) × (IsTrue old.tells → Differs (header config) (take 1024 old.content) at wanted found))
  pub kept : new.content ≡ old.content
  pub reads : new.reads ≤ old.reads + 1

-- an image is opened
abbrev pub OpensAs : Config → MediaState → Result (Unit {0}) ImageRefusal → MediaState → Type 0
OpensAs config old (Ok done) new = Opened config old new
OpensAs config old (Err Media) new = HalfOpened config old new
OpensAs config old (Err (Other wanted found at)) new = Foreign config old new wanted found at

-- what an opened image keeps, whatever stands behind its header
pub record KeepsForm (old new : MediaState) : Type 0 where
  pub len : length new.content ≡ length old.content
  pub head : IsTrue old.tells → take 1024 new.content ≡ take 1024 old.content

-- what no call changes of a medium
pub record MediaGoes (old new : MediaState) : Type 0 where
  pub tells : new.tells ≡ old.tells
  pub faults : old.faults ≤ new.faults
