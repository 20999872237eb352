-- What looks leave, and how many reads there were at most.
use Rattle.std.specs.Prelude.{◌≡◌, ℕ, ◌+◌, ◌≤◌}
use Rattle.fl_flash.specs.Flash.{FlashState, Goes}

-- nothing of the flash changes but the counts of reads and faults
pub record OnlyLooks (old new : FlashState) : Type 0 where
  pub goes : Goes old new
  pub same : new.media.content ≡ old.media.content
  pub armed : new.armed ≡ old.armed
  pub power : new.is_on ≡ old.is_on
  pub cuts : new.cuts ≡ old.cuts
  pub programs : new.work.programs ≡ old.work.programs
  pub erases : new.work.erases ≡ old.work.erases

-- at most n pages were read, and nothing else was done
pub record OnlyReads (old : FlashState) (n : ℕ) (new : FlashState) : Type 0 where
  pub goes : Goes old new
  pub same : new.media.content ≡ old.media.content
  pub armed : new.armed ≡ old.armed
  pub power : new.is_on ≡ old.is_on
  pub cuts : new.cuts ≡ old.cuts
  pub reads : new.work.reads ≤ old.work.reads + n
  pub media_reads : new.media.reads ≤ old.media.reads + n
  pub programs : new.work.programs ≡ old.work.programs
  pub erases : new.work.erases ≡ old.work.erases

-- at most so many reads
pub record FewReads (n : ℕ) (old new : FlashState) : Type 0 where
  pub reads : new.work.reads ≤ old.work.reads + n
  pub media_reads : new.media.reads ≤ old.media.reads + n
