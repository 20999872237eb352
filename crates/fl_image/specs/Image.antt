-- A medium that is an image of a configuration, and one that is only looked at.
use Rattle.std.specs.Prelude.{◌≡◌, ℕ, ◌≤◌, List, length, take}
use Rattle.fl_flash.specs.Media.{MediaState}
use Rattle.fl_model.specs.Record.{Config}
use Rattle.fl_model.specs.Image.{medium_len}
use Rattle.fl_words.specs.Config.{Lines}
use Rattle.fl_config.specs.Whole.{Makes}
use Rattle.fl_image.specs.Header.{IsHeaderOf}

-- the bytes begin with the header of the configuration and have the length of its images, whatever their pages hold
pub record IsImageOf (bytes : List ℕ) (lines : Lines) : Type 0 where
  pub head : IsHeaderOf (take 1024 bytes) lines
  pub size : (config : Config) → Makes lines config → length bytes ≡ medium_len config

-- nothing of the medium changes but its counts, and those of faults never fall
pub record OnlyLooksAt (old new : MediaState) : Type 0 where
  pub tells : new.tells ≡ old.tells
  pub content : new.content ≡ old.content
  pub later : old.faults ≤ new.faults
