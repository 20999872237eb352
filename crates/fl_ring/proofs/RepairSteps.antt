-- How the repairs of a mount end for a ring that the flash stands for.
use Rattle.std.proofs.Common.{◌≡◌, ℕ, Bool, true, false, if◌then◌else◌, List, [], ◌∷◌, ◌++◌, IsTrue, Option, Result, Ok, Err, inl, inr, refl, sym, ◌∙◌, ap, subst, arith}
use Rattle.std.proofs.lemmas.Bool.{true≢false}
use Rattle.fl_flash.specs.Flash.{FlashState, page_at}
use Rattle.fl_flash.specs.declared.armed.Armed.{Armed}
use Rattle.fl_flash.specs.declared.flash.FlashFault.{FlashFault}
use Rattle.fl_flash.specs.declared.flash.FlashFault.TheVariants.{PowerLost, Media}
use Rattle.fl_model.specs.Work.{Kind, VoidMark, Erase, Device, counted}
use Rattle.fl_frame.specs.Device.{ArmsAs, SameDevice}
use Rattle.fl_frame.specs.Reads.{OnlyReads}
use Rattle.fl_frame.specs.Causes.{ReadFails}
use Rattle.fl_ring.specs.Mounting.{RepairEnds}
use Rattle.fl_ring.specs.Operations.{change, repair_kinds}
use Rattle.fl_ring.specs.Ring.{Shape, RingState, OnRing, voided, erased}
use Rattle.fl_ring.specs.Step.{StepDone, StepEnds}
use Rattle.fl_frame.specs.Watched.{IsWatched}
use Rattle.fl_ring.proofs.Founds.{same_pages}
use Rattle.fl_ring.proofs.OperationsInTurn.{performed_err, performed_more, performed_none, performed_last}

-- reads leave the device as it is
pub device_still : (a b : FlashState) (n : ℕ) (device : Device) → OnlyReads a n b → SameDevice a device → SameDevice b device
device_still a b n device reads same = record {
  armed = subst (λ (o : Option Armed). ArmsAs device.armed o) (sym reads.armed) same.armed;
  programs = same.programs ∙ sym reads.programs;
  erases = same.erases ∙ sym reads.erases;
}

pub on_still : (r : Shape) (s : RingState) (a b : FlashState) (n : ℕ) → OnlyReads a n b → OnRing r (page_at a) s → OnRing r (page_at b) s
on_still r s a b n reads on = subst (λ (pg : ℕ → List ℕ). OnRing r pg s) (sym (same_pages a b n reads)) on

-- after reads the rest of a call is watched too
pub watched_still : (old mid new : FlashState) (n : ℕ) (rose : Bool) (device : Device) → IsWatched old new rose device → OnlyReads old n mid → IsWatched mid new rose device
watched_still old mid new n rose device watched reads = record {
  told = subst IsTrue (sym reads.goes.tells) watched.told;
  on = reads.power ∙ watched.on;
  risen = λ up. watched.risen (omega (arith, up, reads.goes.faults));
  counts = device_still old mid n device reads watched.counts;
}

-- a read fails where the medium does
pub failed_read : (old new : FlashState) (rose : Bool) (device : Device) (e : FlashFault) → IsWatched old new rose device → ReadFails old e new → (e ≡ Media) × IsTrue rose
failed_read old new rose device PowerLost watched off = absurd (true≢false (sym watched.on ∙ off))
failed_read old new rose device Media watched up = (refl, watched.risen up)

module _ (r : Shape) (rose : Bool) (device : Device) (s : RingState) where
  -- a read failed before any of these repairs
  pub unread_first : (kinds : List Kind) (old new : FlashState) (n : ℕ) (e : FlashFault) → IsWatched old new rose device → OnlyReads old n new → ReadFails old e new → OnRing r (page_at old) s
      → RepairEnds r rose kinds device s (Err e) new
  unread_first kinds old new n e watched reads fails on =
      let why = failed_read old new rose device e watched fails in
      inr (record {
        is = ap Err why.0;
        risen = why.1;
        front = [];
        others = kinds;
        split = refl;
        did = performed_none r (change r []) rose device s new (device_still old new n device reads watched.counts) (on_still r s old new n reads on) (reads.power ∙ watched.on);
      })

  -- no block waits
  pub none_waits : (old new : FlashState) (n : ℕ) → s.dirty ≡ false → IsWatched old new rose device → OnlyReads old n new → OnRing r (page_at old) s
      → RepairEnds r rose (if s.dirty then Erase ∷ [] else []) device s (Ok tt) new
  none_waits old new n clean watched reads on =
      subst (λ (b : Bool). RepairEnds r rose (if b then Erase ∷ [] else []) device s (Ok tt) new) (sym clean)
      (inl (performed_none r (change r []) rose device s new (device_still old new n device reads watched.counts) (on_still r s old new n reads on) (reads.power ∙ watched.on)))

  -- the block that waits is erased
  pub one_waits : (new : FlashState) (result : Result (Unit {0}) FlashFault) → s.dirty ≡ true → StepEnds r Erase s (erased s) rose device result new → RepairEnds r rose (if s.dirty then Erase ∷ [] else []) device s result new
  one_waits new result waits step =
      subst (λ (b : Bool). RepairEnds r rose (if b then Erase ∷ [] else []) device s result new) (sym waits) (inl (performed_last r (change r []) rose Erase device s result new step))

  -- no page is torn
  pub none_torn : (new : FlashState) (result : Result (Unit {0}) FlashFault) → s.torn ≡ false → RepairEnds r rose (if s.dirty then Erase ∷ [] else []) device s result new → RepairEnds r rose (repair_kinds r s) device s result new
  none_torn new result whole ends = subst (λ (b : Bool). RepairEnds r rose ((if b then VoidMark ∷ [] else []) ++ (if (if b then voided r s else s).dirty then Erase ∷ [] else [])) device s result new) (sym whole) ends

  if_torn : (new : FlashState) (result : Result (Unit {0}) FlashFault) → s.torn ≡ true → RepairEnds r rose (VoidMark ∷ (if (voided r s).dirty then Erase ∷ [] else [])) device s result new → RepairEnds r rose (repair_kinds r s) device s result new
  if_torn new result torn ends = subst (λ (b : Bool). RepairEnds r rose ((if b then VoidMark ∷ [] else []) ++ (if (if b then voided r s else s).dirty then Erase ∷ [] else [])) device s result new) (sym torn) ends

  -- the void mark failed
  pub void_failed : (e : FlashFault) (new : FlashState) → s.torn ≡ true → StepEnds r VoidMark s (voided r s) rose device (Err e) new → RepairEnds r rose (repair_kinds r s) device s (Err e) new
  void_failed e new torn step = if_torn new (Err e) torn (inl (performed_err r (change r []) rose VoidMark (if (voided r s).dirty then Erase ∷ [] else []) device s e new step))

  -- it is done, and the block ahead is seen to
  pub void_done : (mid new : FlashState) (result : Result (Unit {0}) FlashFault) → s.torn ≡ true → StepDone r VoidMark (voided r s) device mid
      → RepairEnds r rose (if (voided r s).dirty then Erase ∷ [] else []) (counted VoidMark device) (voided r s) result new → RepairEnds r rose (repair_kinds r s) device s result new
  void_done mid new result torn step (inl performed) = if_torn new result torn (inl (performed_more r (change r []) rose VoidMark (if (voided r s).dirty then Erase ∷ [] else []) device s mid new result step performed))
  void_done mid new result torn step (inr unread) = if_torn new result torn (inr (record {
    is = unread.is;
    risen = unread.risen;
    front = VoidMark ∷ unread.front;
    others = unread.others;
    split = ap (λ (l : List Kind). VoidMark ∷ l) unread.split;
    did = performed_more r (change r []) rose VoidMark unread.front device s mid new (Ok tt) step unread.did;
  }))
