-- Operations one after another.
use Rattle.std.proofs.Common.{◌≡◌, Bool, true, List, [], ◌∷◌, Option, Result, Ok, Err, inl, inr, refl, sym, subst, arith, IsTrue}
use Rattle.fl_base.specs.declared.types.CutKind.{CutKind}
use Rattle.fl_flash.specs.Flash.{FlashState, Goes, page_at}
use Rattle.fl_flash.specs.declared.flash.FlashFault.{FlashFault}
use Rattle.fl_flash.specs.declared.flash.FlashFault.TheVariants.{PowerLost, Media}
use Rattle.fl_model.specs.Work.{Kind, Device, counted, fired, Whole, CutIn, FailedIn, PartProgress, PartFirst, PartPerforms}
use Rattle.fl_frame.specs.Device.{SameDevice}
use Rattle.fl_ring.specs.Ring.{Shape, RingState, OnRing}
use Rattle.fl_ring.specs.Sealing.{Performed}
use Rattle.fl_ring.specs.Step.{StepDone, StepCut, StepFailed, StepEnds}
use Rattle.fl_frame.specs.Watched.{IsWatched}

module _ (r : Shape) (change : Kind → RingState → RingState) (rose : Bool) (kind : Kind) (kinds : List Kind) (device : Device) (s : RingState) where
  -- the first of the operations is cut
  performed_cut : (new : FlashState) → StepCut r kind s (change kind s) rose device new → Performed r change rose (kind ∷ kinds) device s (Err PowerLost) new
  performed_cut new step = record {
    now = end;
    did = subst (λ (o : Option CutKind). PartFirst rose o kind device s (change kind s) end (PartPerforms (λ k. k) change rose kinds (counted kind device) (change kind s) end)) (sym step.now) (refl, refl, step.leaves);
    answer = (refl, step.power);
    counts = step.counts;
    on = step.on;
  }
    where
      end : PartProgress RingState
      end = record { end = CutIn s; device = fired kind device; state = step.left }

  -- the medium fails in it
  performed_failed : (new : FlashState) → StepFailed r kind s (change kind s) rose device new → Performed r change rose (kind ∷ kinds) device s (Err Media) new
  performed_failed new step = record {
    now = end;
    did = subst (λ (o : Option CutKind). PartFirst rose o kind device s (change kind s) end (PartPerforms (λ k. k) change rose kinds (counted kind device) (change kind s) end)) (sym step.uncut)
        (inl (step.risen, refl, refl, step.leaves));
    answer = (refl, step.power);
    counts = step.counts;
    on = step.on;
  }
    where
      end : PartProgress RingState
      end = record { end = FailedIn s; device = counted kind device; state = step.left }

  pub performed_err : (e : FlashFault) (new : FlashState) → StepEnds r kind s (change kind s) rose device (Err e) new → Performed r change rose (kind ∷ kinds) device s (Err e) new
  performed_err PowerLost new step = performed_cut new step
  performed_err Media new step = performed_failed new step

  -- it is done, and the others follow
  pub performed_more : (mid new : FlashState) (result : Result (Unit {0}) FlashFault) → StepDone r kind (change kind s) device mid → Performed r change rose kinds (counted kind device) (change kind s) result new
      → Performed r change rose (kind ∷ kinds) device s result new
  performed_more mid new result step others = record {
    now = others.now;
    did = subst (λ (o : Option CutKind). PartFirst rose o kind device s (change kind s) others.now (PartPerforms (λ k. k) change rose kinds (counted kind device) (change kind s) others.now)) (sym step.uncut) (inr others.did);
    answer = others.answer;
    counts = others.counts;
    on = others.on;
  }

-- no operation is left
pub performed_none : (r : Shape) (change : Kind → RingState → RingState) (rose : Bool) (device : Device) (s : RingState) (new : FlashState) → SameDevice new device → OnRing r (page_at new) s → new.is_on ≡ true
    → Performed r change rose [] device s (Ok tt) new
performed_none r change rose device s new counts on power = record {
  now = record { end = Whole; device = device; state = s };
  did = (refl, refl, refl);
  answer = (refl, power);
  counts = counts;
  on = on;
}

pub performed_last : (r : Shape) (change : Kind → RingState → RingState) (rose : Bool) (kind : Kind) (device : Device) (s : RingState) (result : Result (Unit {0}) FlashFault) (new : FlashState)
    → StepEnds r kind s (change kind s) rose device result new → Performed r change rose (kind ∷ []) device s result new
performed_last r change rose kind device s (Err e) new step = performed_err r change rose kind [] device s e new step
performed_last r change rose kind device s (Ok u) new step = performed_more r change rose kind [] device s new new (Ok u) step (performed_none r change rose (counted kind device) (change kind s) new step.counts step.on step.power)

pub watched_then : (r : Shape) (kind : Kind) (after : RingState) (old mid new : FlashState) (rose : Bool) (device : Device) → IsWatched old new rose device → Goes old mid → StepDone r kind after device mid
    → IsWatched mid new rose (counted kind device)
watched_then r kind after old mid new rose device watched goes step = record {
  told = subst IsTrue (sym goes.tells) watched.told;
  on = step.power;
  risen = λ up. watched.risen (omega (arith, up, goes.faults));
  counts = step.counts;
}

-- the same where other operations went before it
pub watched_later : (r : Shape) (kind : Kind) (after : RingState) (old mid new : FlashState) (rose : Bool) (device mid_device : Device) → IsWatched old new rose device → Goes old mid → StepDone r kind after mid_device mid
    → IsWatched mid new rose (counted kind mid_device)
watched_later r kind after old mid new rose device mid_device watched goes step = record {
  told = subst IsTrue (sym goes.tells) watched.told;
  on = step.power;
  risen = λ up. watched.risen (omega (arith, up, goes.faults));
  counts = step.counts;
}
