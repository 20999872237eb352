-- Calls that only read, one after another.
use Rattle.std.proofs.Common.{◌≡◌, ℕ, zero, suc, ◌+◌, ◌-◌, ◌^◌, ◌<◌, ◌≤◌, Bool, true, false, List, take, drop, length, refl, sym, ap, subst, ◌∙◌, arith, Result}
use Rattle.fl_base.specs.declared.types.Geometry.{Geometry}
use Rattle.fl_flash.specs.Buffer.{BufferState}
use Rattle.fl_flash.specs.Media.{next_count}
use Rattle.fl_flash.specs.Places.{extent}
use Rattle.fl_flash.specs.Flash.{FlashState, Goes, IsCounted, ReadsPage}
use Rattle.fl_flash.specs.declared.flash.Work.{Work}
use Rattle.fl_flash.specs.declared.flash.FlashFault.{FlashFault}
use Rattle.fl_frame.specs.Contents.{Contents, contents_of, counted, OnlyReads}

-- nothing was done
pub OnlyReads-same : (flash : FlashState) → OnlyReads flash flash
OnlyReads-same flash = record { contents = refl; origin = refl; power = refl; armed = refl; cuts = refl; faults = omega arith; reads = 0; work = refl; media = refl }

pub counted-add : (m n before : ℕ) → counted (m + n) before ≡ counted m (counted n before)
counted-add zero n before = ap (λ (k : ℕ). counted k before) (omega arith)
counted-add (suc m) n before =
    let more : suc m + n ≡ suc (m + n) = omega arith in
    ap (λ (k : ℕ). counted k before) more ∙ ap next_count (counted-add m n before)

-- one call after another
pub OnlyReads-then : (a b c : FlashState) → OnlyReads a b → OnlyReads b c → OnlyReads a c
OnlyReads-then a b c first second = record {
  contents = second.contents ∙ first.contents;
  origin = second.origin ∙ first.origin;
  power = second.power ∙ first.power;
  armed = second.armed ∙ first.armed;
  cuts = second.cuts ∙ first.cuts;
  faults = omega (arith, first.faults, second.faults);
  reads = second.reads + first.reads;
  work = second.work ∙ ap (λ (w : Work). record w { reads = counted second.reads w.reads }) first.work
      ∙ ap (λ (n : ℕ). record a.work { reads = n }) (sym (counted-add second.reads first.reads a.work.reads));
  media = second.media ∙ ap (counted second.reads) first.media ∙ sym (counted-add second.reads first.reads a.media.reads);
}

same_contents : (old new : FlashState) → Goes old new → new.media.content ≡ old.media.content → contents_of new ≡ contents_of old
same_contents old new goes bytes =
    ap (λ (g : Geometry). record { geometry = g; blocks = new.blocks; start = new.start; tells = new.media.tells; bytes = new.media.content }) goes.geometry
    ∙ ap (λ (n : ℕ). record { geometry = old.geometry; blocks = n; start = new.start; tells = new.media.tells; bytes = new.media.content }) goes.blocks
    ∙ ap (λ (n : ℕ). record { geometry = old.geometry; blocks = old.blocks; start = n; tells = new.media.tells; bytes = new.media.content }) goes.start
    ∙ ap (λ (t : Bool). record { geometry = old.geometry; blocks = old.blocks; start = old.start; tells = t; bytes = new.media.content }) goes.tells
    ∙ ap (λ (l : List ℕ). record { geometry = old.geometry; blocks = old.blocks; start = old.start; tells = old.media.tells; bytes = l }) bytes

-- a read of the flash
pub OnlyReads-read : (old new : FlashState) (page size : ℕ) (result : Result (Unit {0}) FlashFault) (into : BufferState) → ReadsPage old page size result into new → OnlyReads old new
OnlyReads-read old new page size result into is = by_power old.is_on refl
  where
    by_power : (on : Bool) → old.is_on ≡ on → OnlyReads old new
    by_power true e = record {
      contents = same_contents old new is.goes is.same;
      origin = is.goes.origin;
      power = is.power;
      armed = is.armed;
      cuts = is.cuts;
      faults = is.goes.faults;
      reads = 1;
      work = is.counted e;
      media = is.one_read e;
    }
    by_power false e = let P : FlashState → Type 0 = λ f. OnlyReads old f in subst P (sym (is.off e).1) (OnlyReads-same old)

-- a count that isn't at its end rose by each read
pub counted-exact : (n before : ℕ) → counted n before < 2 ^ 64 - 1 → counted n before ≡ before + n
counted-exact zero before below = omega arith
counted-exact (suc n) before below =
    let less : counted n before < 2 ^ 64 - 1 = omega arith in
    omega (arith, counted-exact n before less)

-- .. and none by more
pub counted-most : (n before : ℕ) → counted n before ≤ before + n
counted-most zero before = omega arith
counted-most (suc n) before = omega (arith, counted-most n before)

-- flash and medium count the same reads
reads-counted : (old new : FlashState) → OnlyReads old new → IsCounted old new
reads-counted old new is =
    let count : new.work.reads ≡ counted is.reads old.work.reads = ap (λ (w : Work). w.reads) is.work in
    let programs : new.work.programs ≡ old.work.programs = ap (λ (w : Work). w.programs) is.work in
    let erases : new.work.erases ≡ old.work.erases = ap (λ (w : Work). w.erases) is.work in
    let rises : new.work.reads < 2 ^ 64 - 1 → counted is.reads old.work.reads ≡ old.work.reads + is.reads =
    λ below. counted-exact is.reads old.work.reads (omega (arith, count, below)) in
    record {
      reads = λ below. omega (arith, count, rises below);
      programs = λ below. omega (arith, programs);
      erases = λ below. omega (arith, erases);
      medium = λ below few. omega (arith, count, rises below, programs, is.media, counted-most is.reads old.media.reads);
    }

-- what such a call keeps
pub OnlyReads-goes : (old new : FlashState) → OnlyReads old new → Goes old new
OnlyReads-goes old new is = record {
  geometry = ap (λ (c : Contents). c.geometry) is.contents;
  blocks = ap (λ (c : Contents). c.blocks) is.contents;
  start = ap (λ (c : Contents). c.start) is.contents;
  origin = is.origin;
  tells = ap (λ (c : Contents). c.tells) is.contents;
  size = ap (λ (c : Contents). length c.bytes) is.contents;
  front = λ told. ap (λ (c : Contents). take old.start c.bytes) is.contents;
  back = λ told. ap (λ (c : Contents). drop (old.start + extent old.geometry old.blocks) c.bytes) is.contents;
  cuts = omega (arith, is.cuts);
  faults = is.faults;
  power = λ none. record { unarmed = is.armed ∙ none; on = λ on. is.power ∙ on; cuts = is.cuts };
  counted = reads-counted old new is;
}

-- where the count of reads isn't at its end it didn't fall
pub OnlyReads-reads : (a b : FlashState) → OnlyReads a b → b.work.reads < 2 ^ 64 - 1 → a.work.reads ≤ b.work.reads
OnlyReads-reads a b is below =
    let count : b.work.reads ≡ counted is.reads a.work.reads = ap (λ (w : Work). w.reads) is.work in
    omega (arith, count, counted-exact is.reads a.work.reads (omega (arith, count)))
