-- The causes of reads of pages, one after another.
use Rattle.std.proofs.Common.{◌≡◌, ℕ, ◌+◌, ◌-◌, ◌^◌, ◌<◌, ◌≤◌, Bool, true, false, refl, sym, ap, ◌∙◌, arith, Result, Ok, Err, IfErr}
use Rattle.fl_flash.specs.Buffer.{BufferState}
use Rattle.fl_flash.specs.Media.{next_count}
use Rattle.fl_flash.specs.Flash.{FlashState, ReadsPage}
use Rattle.fl_flash.specs.declared.flash.Work.{Work}
use Rattle.fl_flash.specs.declared.flash.FlashFault.{FlashFault}
use Rattle.fl_flash.specs.declared.flash.FlashFault.TheVariants.{PowerLost, Media}
use Rattle.fl_frame.specs.Contents.{OnlyReads}
use Rattle.fl_frame.proofs.ContentsInTurn.{OnlyReads-reads}
use Rattle.fl_page.specs.declared.fault.ReadFault.{ReadFault}
use Rattle.fl_page.specs.declared.fault.ReadFault.TheVariants.{Flash, BadPage}
use Rattle.fl_page.specs.Causes.{IsCaused}

-- a read that failed has its cause
pub IsCaused-read : (old new : FlashState) (page size : ℕ) (result : Result (Unit {0}) FlashFault) (into : BufferState) → ReadsPage old page size result into new → IfErr result (λ fault. IsCaused old (Flash fault) new)
IsCaused-read old new page size (Ok done) into is = tt
IsCaused-read old new page size (Err PowerLost) into is = by_power old.is_on refl
  where
    by_power : (on : Bool) → old.is_on ≡ on → old.is_on ≡ false
    by_power true e = absurd (is.never_lost e refl)
    by_power false e = e
IsCaused-read old new page size (Err Media) into is = (is.cause.media refl, by_power old.is_on refl)
  where
    other : ◌≡◌ {A = Result (Unit {0}) FlashFault} (Err Media) (Err PowerLost) → ⊥
    other e = cc

    by_power : (on : Bool) → old.is_on ≡ on → new.work.reads < 2 ^ 64 - 1 → old.work.reads + 1 ≤ new.work.reads
    by_power true e below = let count : new.work.reads ≡ next_count old.work.reads = ap (λ (w : Work). w.reads) (is.counted e) in omega (arith, count, below)
    by_power false e below = absurd (other (is.off e).0)

-- a fault of a later call has its cause in both
pub IsCaused-later : (a b c : FlashState) (fault : ReadFault) → OnlyReads a b → IsCaused b fault c → IsCaused a fault c
IsCaused-later a b c (Flash PowerLost) first off = sym first.power ∙ off
IsCaused-later a b c (Flash Media) first cause = (
  omega (arith, first.faults, cause.0),
  λ below.
      let more = cause.1 below in
      let before = OnlyReads-reads a b first (omega (arith, more, below)) in
      omega (arith, more, before),
)
IsCaused-later a b c (BadPage bad) first cause = cause
