-- How often calls read the medium, by what the flash counts.
use Rattle.std.proofs.Common.{◌≡◌, ◌+◌, ◌≤◌, ap, arith}
use Rattle.fl_flash.specs.Flash.{FlashState, IsCounted}
use Rattle.fl_flash.specs.Media.{next_count}
use Rattle.fl_flash.specs.declared.flash.Work.{Work}

-- nothing was done that is counted
pub counted-same : (old new : FlashState) → new.work ≡ old.work → new.media.reads ≡ old.media.reads → IsCounted old new
counted-same old new work medium =
    let reads : new.work.reads ≡ old.work.reads = ap (λ (w : Work). w.reads) work in
    let programs : new.work.programs ≡ old.work.programs = ap (λ (w : Work). w.programs) work in
    let erases : new.work.erases ≡ old.work.erases = ap (λ (w : Work). w.erases) work in
    record {
      reads = λ below. omega (arith, reads);
      programs = λ below. omega (arith, programs);
      erases = λ below. omega (arith, erases);
      medium = λ below few. omega (arith, reads, programs, medium);
    }

-- one call after another
pub counted-then : (a b c : FlashState) → IsCounted a b → IsCounted b c → IsCounted a c
counted-then a b c first second = record {
  reads = λ below. let later = second.reads below in omega (arith, later, first.reads (omega (arith, below, later)));
  programs = λ below. let later = second.programs below in omega (arith, later, first.programs (omega (arith, below, later)));
  erases = λ below. let later = second.erases below in omega (arith, later, first.erases (omega (arith, below, later)));
  medium = λ below few.
      let before = first.medium (omega (arith, below, second.reads below)) (omega (arith, few, second.programs few)) in
      omega (arith, before, second.medium below few);
}

-- a read, which reads the medium once
pub counted-read : (old new : FlashState) → new.work ≡ record old.work { reads = next_count old.work.reads } → new.media.reads ≡ next_count old.media.reads → IsCounted old new
counted-read old new work once =
    let reads : new.work.reads ≡ next_count old.work.reads = ap (λ (w : Work). w.reads) work in
    let programs : new.work.programs ≡ old.work.programs = ap (λ (w : Work). w.programs) work in
    let erases : new.work.erases ≡ old.work.erases = ap (λ (w : Work). w.erases) work in
    record {
      reads = λ below. omega (arith, reads, below);
      programs = λ below. omega (arith, programs);
      erases = λ below. omega (arith, erases);
      medium = λ below few. omega (arith, reads, programs, once, below);
    }

-- a program
pub counted-program : (old new : FlashState) → new.work ≡ record old.work { programs = next_count old.work.programs } → new.media.reads ≤ old.media.reads + 1 → IsCounted old new
counted-program old new work few =
    let reads : new.work.reads ≡ old.work.reads = ap (λ (w : Work). w.reads) work in
    let programs : new.work.programs ≡ next_count old.work.programs = ap (λ (w : Work). w.programs) work in
    let erases : new.work.erases ≡ old.work.erases = ap (λ (w : Work). w.erases) work in
    record {
      reads = λ below. omega (arith, reads);
      programs = λ below. omega (arith, programs, below);
      erases = λ below. omega (arith, erases);
      medium = λ below least. omega (arith, reads, programs, few, least);
    }

-- an erase
pub counted-erase : (old new : FlashState) → new.work ≡ record old.work { erases = next_count old.work.erases } → new.media.reads ≡ old.media.reads → IsCounted old new
counted-erase old new work none =
    let reads : new.work.reads ≡ old.work.reads = ap (λ (w : Work). w.reads) work in
    let programs : new.work.programs ≡ old.work.programs = ap (λ (w : Work). w.programs) work in
    let erases : new.work.erases ≡ next_count old.work.erases = ap (λ (w : Work). w.erases) work in
    record {
      reads = λ below. omega (arith, reads);
      programs = λ below. omega (arith, programs);
      erases = λ below. omega (arith, erases, below);
      medium = λ below few. omega (arith, reads, programs, none);
    }
