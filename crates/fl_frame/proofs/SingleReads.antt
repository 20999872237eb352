-- What one read of a page leaves of a flash.
use Rattle.std.proofs.Common.{◌≡◌, ℕ, Result, Ok, Err, inl, inr, refl, ap, arith}
use Rattle.std.proofs.lemmas.Bool.{cases_Bool}
use Rattle.fl_flash.specs.Buffer.{BufferState}
use Rattle.fl_flash.specs.Flash.{FlashState, ReadsPage}
use Rattle.fl_flash.specs.Media.{next_count}
use Rattle.fl_flash.specs.declared.flash.Work.{Work}
use Rattle.fl_flash.specs.declared.flash.FlashFault.{FlashFault}
use Rattle.fl_flash.specs.declared.flash.FlashFault.TheVariants.{PowerLost, Media}
use Rattle.fl_frame.specs.Causes.{ReadFails}
use Rattle.fl_frame.specs.Reads.{OnlyReads}
use Rattle.fl_frame.proofs.ReadsInTurn.{was_on}

module _ (old new : FlashState) (page size : ℕ) (result : Result (Unit {0}) FlashFault) (into : BufferState) (is : ReadsPage old page size result into new) where
  pub one_read : OnlyReads old 1 new
  one_read = record {
    goes = is.goes;
    same = is.same;
    armed = is.armed;
    power = is.power;
    cuts = is.cuts;
    reads = elim (cases_Bool old.is_on) [ inl on ↦ omega (arith, ap (λ (w : Work). w.reads) (is.counted on)) | inr off ↦ omega (arith, ap (λ (f : FlashState). f.work.reads) (is.off off).1) ];
    media_reads = elim (cases_Bool old.is_on) [ inl on ↦ omega (arith, is.one_read on) | inr off ↦ omega (arith, ap (λ (f : FlashState). f.media.reads) (is.off off).1) ];
    programs = elim (cases_Bool old.is_on) [ inl on ↦ ap (λ (w : Work). w.programs) (is.counted on) | inr off ↦ ap (λ (f : FlashState). f.work.programs) (is.off off).1 ];
    erases = elim (cases_Bool old.is_on) [ inl on ↦ ap (λ (w : Work). w.erases) (is.counted on) | inr off ↦ ap (λ (f : FlashState). f.work.erases) (is.off off).1 ];
  }

-- why it failed
pub read_fails : (old new : FlashState) (page size : ℕ) (e : FlashFault) (into : BufferState) → ReadsPage old page size (Err e) into new → ReadFails old e new
read_fails old new page size PowerLost into is = elim (cases_Bool old.is_on) [ inl on ↦ absurd (is.never_lost on refl) | inr off ↦ off ]
read_fails old new page size Media into is = is.cause.media refl

-- a read that went well was counted, unless the count stands at its end
pub read_once : (old new : FlashState) (page size : ℕ) (u : Unit {0}) (into : BufferState) → ReadsPage old page size (Ok u) into new → new.work.reads ≡ next_count old.work.reads
read_once old new page size u into is = ap (λ (w : Work). w.reads) (is.counted (was_on old (Ok u) new u is.off refl))
