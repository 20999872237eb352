-- Reads and looks one after another, and the cause of a fault after them.
use Rattle.std.proofs.Common.{◌≡◌, ℕ, ◌+◌, List, IsTrue, true, inl, inr, Result, Ok, refl, sym, ◌∙◌, ap, subst, arith}
use Rattle.std.proofs.lemmas.Bool.{cases_Bool}
use Rattle.fl_base.specs.declared.types.Geometry.{Geometry}
use Rattle.fl_flash.specs.Flash.{FlashState, OffChangesNothing, page_at}
use Rattle.fl_flash.specs.Places.{page_of}
use Rattle.fl_flash.specs.declared.flash.FlashFault.{FlashFault}
use Rattle.fl_flash.specs.declared.flash.FlashFault.TheVariants.{PowerLost, Media}
use Rattle.fl_frame.specs.Causes.{CausedBy, ReadFails}
use Rattle.fl_frame.specs.Reads.{OnlyLooks, OnlyReads}
use Rattle.fl_frame.proofs.CallsInTurn.{cut-later, goes-same, goes-then}

-- nothing was read, of any number of reads
pub none_read : (a : FlashState) (n : ℕ) → OnlyReads a n a
none_read a n = record { goes = goes-same a; same = refl; armed = refl; power = refl; cuts = refl; reads = omega arith; media_reads = omega arith; programs = refl; erases = refl }

pub no_reads : (a : FlashState) → OnlyReads a 0 a
no_reads a = none_read a 0

pub more_reads : (a b c : FlashState) (n m : ℕ) → OnlyReads a n b → OnlyReads b m c → OnlyReads a (n + m) c
more_reads a b c n m x y = record {
  goes = goes-then a b c x.goes y.goes;
  same = y.same ∙ x.same;
  armed = y.armed ∙ x.armed;
  power = y.power ∙ x.power;
  cuts = y.cuts ∙ x.cuts;
  reads = omega (arith, x.reads, y.reads);
  media_reads = omega (arith, x.media_reads, y.media_reads);
  programs = y.programs ∙ x.programs;
  erases = y.erases ∙ x.erases;
}

-- reads are looks
pub looks_by : (a b : FlashState) (n : ℕ) → OnlyReads a n b → OnlyLooks a b
looks_by a b n x = record { goes = x.goes; same = x.same; armed = x.armed; power = x.power; cuts = x.cuts; programs = x.programs; erases = x.erases }

pub looks_none : (a : FlashState) → OnlyLooks a a
looks_none a = record { goes = goes-same a; same = refl; armed = refl; power = refl; cuts = refl; programs = refl; erases = refl }

pub looks_more : (a b c : FlashState) → OnlyLooks a b → OnlyLooks b c → OnlyLooks a c
looks_more a b c x y = record {
  goes = goes-then a b c x.goes y.goes;
  same = y.same ∙ x.same;
  armed = y.armed ∙ x.armed;
  power = y.power ∙ x.power;
  cuts = y.cuts ∙ x.cuts;
  programs = y.programs ∙ x.programs;
  erases = y.erases ∙ x.erases;
}

-- the pages stand
pub looks_pages : (a b : FlashState) → OnlyLooks a b → page_at b ≡ page_at a
looks_pages a b x =
    ap (λ (l : List ℕ). page_of l b.start b.geometry.page) x.same
    ∙ ap (λ (k : ℕ). page_of a.media.content k b.geometry.page) x.goes.start
    ∙ ap (λ (g : Geometry). page_of a.media.content a.start g.page) x.goes.geometry

pub same_page : (a b : FlashState) (n p : ℕ) → OnlyReads a n b → page_at b p ≡ page_at a p
same_page a b n p x = ap (λ (pages : ℕ → List ℕ). pages p) (looks_pages a b (looks_by a b n x))

pub told_still : (a b : FlashState) (n : ℕ) → OnlyReads a n b → IsTrue a.media.tells → IsTrue b.media.tells
told_still a b n x told = subst IsTrue (sym x.goes.tells) told

-- a call that ended well found the power on
pub was_on : {T : Type 0} (old : FlashState) (result : Result T FlashFault) (new : FlashState) (u : T) → OffChangesNothing old result new → result ≡ Ok u → old.is_on ≡ true
was_on old result new u off is = elim (cases_Bool old.is_on) [
  | inl on ↦ on
  | inr is_off ↦ let h = (off is_off).0 in absurd (cc (h, is))
]

-- a read fails by the power only where it was off
pub cause_of_read : (old new : FlashState) (e : FlashFault) → ReadFails old e new → CausedBy old e new
cause_of_read old new PowerLost off = inl off
cause_of_read old new Media rose = rose

-- a fault of a call after reads
pub caused_later : (old mid new : FlashState) (e : FlashFault) (n : ℕ) → OnlyReads old n mid → CausedBy mid e new → CausedBy old e new
caused_later old mid new PowerLost n reads (inl off) = inl (sym reads.power ∙ off)
caused_later old mid new PowerLost n reads (inr cut) = inr (cut-later old mid new reads.goes cut)
caused_later old mid new Media n reads rose = omega (arith, rose, reads.goes.faults)
