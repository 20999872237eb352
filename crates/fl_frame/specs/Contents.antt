-- What a flash holds, and calls that only read it.
use Rattle.std.specs.Prelude.{◌≡◌, ℕ, zero, suc, ◌≤◌, Bool, List}
use Rattle.fl_base.specs.declared.types.Geometry.{Geometry}
use Rattle.fl_flash.specs.Flash.{FlashState}
use Rattle.fl_flash.specs.Media.{next_count}

-- the shape of a flash, its place on its medium, and the bytes of the medium, which count where they are told
pub record Contents : Type 0 where
  pub geometry : Geometry
  pub blocks : ℕ
  pub start : ℕ
  pub tells : Bool
  pub bytes : List ℕ

abbrev pub contents_of : FlashState → Contents
contents_of flash = record {
  geometry = flash.geometry;
  blocks = flash.blocks;
  start = flash.start;
  tells = flash.media.tells;
  bytes = flash.media.content;
}

-- a count after so many more reads
abbrev pub counted : ℕ → ℕ → ℕ
counted zero before = before
counted (suc n) before = next_count (counted n before)

-- nothing is programmed and nothing erased, and the power stays; flash and medium count the same reads
pub record OnlyReads (old new : FlashState) : Type 0 where
  pub contents : contents_of new ≡ contents_of old
  pub origin : new.origin ≡ old.origin
  pub power : new.is_on ≡ old.is_on
  pub armed : new.armed ≡ old.armed
  pub cuts : new.cuts ≡ old.cuts
  pub faults : old.media.faults ≤ new.media.faults
  pub reads : ℕ
  pub work : new.work ≡ record old.work { reads = counted reads old.work.reads }
  pub media : new.media.reads ≡ counted reads old.media.reads
