-- A medium that is made, or found as it should be.
use Rattle.std.specs.Prelude.{◌≡◌, ℕ, ◌+◌, ◌-◌, ◌≤◌, ◌⊎◌, IsTrue, Some, Result, Ok, Err, List, [], ◌++◌, length, take, replicate, slice_get}
use Rattle.fl_base.specs.Causes.{Rose}
use Rattle.fl_flash.specs.Media.{MediaState, next_count}
use Rattle.fl_config.specs.declared.image.ImageRefusal.{ImageRefusal}
use Rattle.fl_config.specs.declared.image.ImageRefusal.TheVariants.{Media, Other}

-- the bytes were appended; only the faults may have become more
pub record Grown (old : MediaState) (bytes : List ℕ) (new : MediaState) : Type 0 where
  pub tells : new.tells ≡ old.tells
  pub reads : new.reads ≡ old.reads
  pub later : old.faults ≤ new.faults
  pub len : length new.content ≡ length old.content + length bytes
  pub content : IsTrue old.tells → new.content ≡ old.content ++ bytes

-- the medium failed, and is no longer than with them
pub record GrownInPart (old : MediaState) (bytes : List ℕ) (new : MediaState) : Type 0 where
  pub tells : new.tells ≡ old.tells
  pub reads : new.reads ≡ old.reads
  pub later : old.faults ≤ new.faults
  pub rose : Rose old.faults new.faults
  pub most : length new.content ≤ length old.content + length bytes

abbrev pub Grows : {E : Type 0} → MediaState → List ℕ → Result (Unit {0}) E → MediaState → Type 0
Grows old bytes (Ok done) new = Grown old bytes new
Grows old bytes (Err failed) new = GrownInPart old bytes new

-- An empty medium was made, without a read: the header, and all else is FF.
pub record IsMade (len : ℕ) (head : List ℕ) (old new : MediaState) : Type 0 where
  pub empty : old.content ≡ []
  pub tells : new.tells ≡ old.tells
  pub reads : new.reads ≡ old.reads
  pub later : old.faults ≤ new.faults
  pub len_is : length new.content ≡ len
  pub content : IsTrue old.tells → new.content ≡ head ++ replicate (len - 1024) 255

-- One that isn't empty has this length and this header, for which it was read once, and is unchanged.
pub record IsFound (len : ℕ) (head : List ℕ) (old new : MediaState) : Type 0 where
  pub some : old.content ≡ [] → ⊥
  pub len_is : length old.content ≡ len
  pub head_is : IsTrue old.tells → take 1024 old.content ≡ head
  pub same : new.content ≡ old.content
  pub tells : new.tells ≡ old.tells
  pub reads : new.reads ≡ next_count old.reads
  pub later : old.faults ≤ new.faults

-- The medium failed in the call. One that wasn't empty is unchanged, and was read once at most; one that was is no longer than it
-- should become, and wasn't read.
pub record IsBroken (len : ℕ) (old new : MediaState) : Type 0 where
  pub rose : Rose old.faults new.faults
  pub later : old.faults ≤ new.faults
  pub reads : new.reads ≤ old.reads + 1
  pub tells : new.tells ≡ old.tells
  pub part : old.content ≡ [] → length new.content ≤ len
  pub unread : old.content ≡ [] → new.reads ≡ old.reads
  pub same : (old.content ≡ [] → ⊥) → new.content ≡ old.content

-- the first place at which two texts differ
pub record Differs (wanted found : List ℕ) (at a b : ℕ) : Type 0 where
  pub same : take at wanted ≡ take at found
  pub wanted_is : slice_get wanted at ≡ Some a
  pub found_is : slice_get found at ≡ Some b
  pub differ : a ≡ b → ⊥

-- two texts of one length are the same, or differ first there
abbrev pub Compares : List ℕ → List ℕ → Result (Unit {0}) ImageRefusal → Type 0
Compares wanted found (Ok done) = wanted ≡ found
Compares wanted found (Err Media) = ⊥
Compares wanted found (Err (Other a b at)) = Differs wanted found at a b

-- It has another length, of which both are told, or the length and another header, of which both bytes are told. It was
-- read once at most.
pub record IsOther (len : ℕ) (head : List ℕ) (wanted found at : ℕ) (old new : MediaState) : Type 0 where
  pub some : old.content ≡ [] → ⊥
  pub other : ((wanted ≡ len) × (found ≡ length old.content) × (at ≡ 1024) × (wanted ≡ found → ⊥))
      ⊎ ((length old.content ≡ len) × (IsTrue old.tells → Differs head (take 1024 old.content) at wanted found))
  pub same : new.content ≡ old.content
  pub tells : new.tells ≡ old.tells
  pub reads : new.reads ≤ old.reads + 1
  pub later : old.faults ≤ new.faults

abbrev pub Opens : ℕ → List ℕ → MediaState → Result (Unit {0}) ImageRefusal → MediaState → Type 0
Opens len head old (Ok done) new = IsMade len head old new ⊎ IsFound len head old new
Opens len head old (Err Media) new = IsBroken len old new
Opens len head old (Err (Other wanted found at)) new = IsOther len head wanted found at old new
