-- How the operations of a seal make the whole.
use Rattle.std.proofs.Common.{◌≡◌, ℕ, ◌+◌, ◌-◌, ◌*◌, Bool, true, false, if◌then◌else◌, List, [], ◌∷◌, replicate, Some, Result, Ok, Err, OnOk, inl, refl, sym, ◌∙◌, subst}
use Rattle.fl_flash.specs.Flash.{FlashState, ProgramsPage, ErasesBlock}
use Rattle.fl_flash.specs.declared.flash.FlashFault.{FlashFault}
use Rattle.fl_model.specs.Work.{Device, Body, Mark, Erase, counted, PartEnd, Whole, CutIn, FailedIn}
use Rattle.fl_ring.specs.declared.ring.Ring.{Ring}
use Rattle.fl_ring.specs.Operations.{change, seal_kinds}
use Rattle.fl_ring.specs.Place.{shape_of, StandsFor}
use Rattle.fl_ring.specs.Ring.{Shape, RingState, place, oldest, is_due_at, begun, appended, sealed, erased}
use Rattle.fl_ring.specs.Repairing.{ahead_first}
use Rattle.fl_ring.specs.Sealing.{IsReady, AnswersEnd, Performed, Seals, ErasesWhere, SealCalls}
use Rattle.fl_ring.specs.Step.{StepDone, StepEnds}
use Rattle.fl_ring.proofs.Bodies.{kept-next, kept-torn}
use Rattle.fl_ring.proofs.NumbersAfterSeal.{due_as}
use Rattle.fl_ring.proofs.OperationsInTurn.{performed_err, performed_more, performed_none, performed_last}
use Rattle.fl_ring.proofs.Whole.{dirty_due, whole_seal}

-- an Ok comes where all is done
pub whole_end : (end : PartEnd RingState) (u : Unit {0}) (new : FlashState) → AnswersEnd end (Ok u) new → end ≡ Whole
whole_end Whole u new answer = refl
whole_end (CutIn before) u new answer = absurd (let e = answer.0 in cc)
whole_end (FailedIn before) u new answer = absurd (let e = answer.0 in cc)

-- what a whole seal leaves
pub record IsEnd (r : Shape) (s : RingState) (body : List ℕ) (left : RingState) : Type 0 where
  pub whole : left.torn ≡ false
  pub clean : left.dirty ≡ false
  pub next_is : left.next ≡ s.next + 1
  pub oldest_is : oldest left ≡ oldest (sealed r s body)

pub seal_end : (r : Shape) (s : RingState) (body : List ℕ) (rose : Bool) (device : Device) (u : Unit {0}) (new : FlashState) (h : Performed r (change r body) rose (seal_kinds r s body) device s (Ok u) new) → IsEnd r s body h.now.state
seal_end r s body rose device u new h =
    subst (IsEnd r s body) (sym (whole_seal r s body rose device h.now h.did (whole_end h.now.end u new h.answer)))
    (record { whole = kept-torn r s (Some body); clean = refl; next_is = kept-next r s (Some body); oldest_is = refl })

pub seals_of : (s : RingState) (body : List ℕ) (rose : Bool) (device : Device) (old : Ring) (result : Result (Unit {0}) FlashFault) (ring : Ring) (new : FlashState)
    → Performed (shape_of old) (change (shape_of old) body) rose (seal_kinds (shape_of old) s body) device s result new → OnOk result (StandsFor ring (erased (sealed (shape_of old) s body)))
    → Seals s body rose device old result ring new
seals_of s body rose device old (Err e) ring new performed stands = record { performed = performed; stands = tt }
seals_of s body rose device old (Ok u) ring new performed stands = record {
  performed = performed;
  stands = subst (λ (t : RingState). StandsFor ring t)
      (sym (whole_seal (shape_of old) s body rose device performed.now performed.did (whole_end performed.now.end u new performed.answer))) stands;
}

module _ (ring : Ring) (s : RingState) (body : List ℕ) (rose : Bool) (device : Device) (f : FlashState) (ready : IsReady ring f s) where
  abbrev r : Shape
  r = shape_of ring

  pub begun_stands : StandsFor ring (begun s)
  begun_stands = record { next = ready.stands.next; oldest = ready.stands.oldest }

  dirty_as : (due : Bool) → due ≡ is_due_at r (ring.next + 1) (ring.next + 1 - ring.oldest) → (sealed r s body).dirty ≡ due
  dirty_as due e = dirty_due r (appended s (Some body)) ready.clean ∙ sym (due_as ring s (Some body) ready.stands ready.on.ring.not_negative) ∙ sym e

  module _ (mid new : FlashState) (first : StepDone r Body (begun s) device mid) where
    pub mark_failed : (e : FlashFault) → StepEnds r Mark (begun s) (sealed r s body) rose (counted Body device) (Err e) new → Performed r (change r body) rose (seal_kinds r s body) device s (Err e) new
    mark_failed e second =
        performed_more r (change r body) rose Body (Mark ∷ (if (sealed r s body).dirty then Erase ∷ [] else [])) device s mid new (Err e) first
        (performed_err r (change r body) rose Mark (if (sealed r s body).dirty then Erase ∷ [] else []) (counted Body device) (begun s) e new second)

  module _ (mid marked : FlashState) (first : StepDone r Body (begun s) device mid) (second : StepDone r Mark (sealed r s body) (counted Body device) marked) (due : Bool) (is : due ≡ is_due_at r (ring.next + 1) (ring.next + 1 - ring.oldest)) where
    both : (result : Result (Unit {0}) FlashFault) (new : FlashState) → Performed r (change r body) rose (if due then Erase ∷ [] else []) (counted Mark (counted Body device)) (sealed r s body) result new
        → Performed r (change r body) rose (seal_kinds r s body) device s result new
    both result new others =
        performed_more r (change r body) rose Body (Mark ∷ (if (sealed r s body).dirty then Erase ∷ [] else [])) device s mid new result first
        (performed_more r (change r body) rose Mark (if (sealed r s body).dirty then Erase ∷ [] else []) (counted Body device) (begun s) marked new result second
        (subst (λ (b : Bool). Performed r (change r body) rose (if b then Erase ∷ [] else []) (counted Mark (counted Body device)) (sealed r s body) result new) (sym (dirty_as due is)) others))

    pub none_due : due ≡ false → Performed r (change r body) rose (seal_kinds r s body) device s (Ok tt) marked
    none_due e = both (Ok tt) marked
        (subst (λ (b : Bool). Performed r (change r body) rose (if b then Erase ∷ [] else []) (counted Mark (counted Body device)) (sealed r s body) (Ok tt) marked) (sym e)
        (performed_none r (change r body) rose (counted Mark (counted Body device)) (sealed r s body) marked second.counts second.on second.power))

    pub erase_due : due ≡ true → (result : Result (Unit {0}) FlashFault) (new : FlashState) → StepEnds r Erase (sealed r s body) (erased (sealed r s body)) rose (counted Mark (counted Body device)) result new
        → Performed r (change r body) rose (seal_kinds r s body) device s result new
    erase_due e result new third = both result new
        (subst (λ (b : Bool). Performed r (change r body) rose (if b then Erase ∷ [] else []) (counted Mark (counted Body device)) (sealed r s body) result new) (sym e)
        (performed_last r (change r body) rose Erase (counted Mark (counted Body device)) (sealed r s body) result new third))

    pub waits : due ≡ true → (sealed r s body).dirty ≡ true
    waits e = dirty_as due is ∙ e

-- the calls of a seal that was done up to its erase
pub calls_marked : (r : Shape) (next : ℕ) (due : Bool) (body : List ℕ) (old begun marked new : FlashState) (result : Result (Unit {0}) FlashFault)
    → ProgramsPage old (place r next) 0 body (Ok tt) begun → ProgramsPage begun (place r next) (r.size - 8) (replicate 4 0) (Ok tt) marked → ErasesWhere r next due marked result new → SealCalls r next due body old result new
calls_marked r next due body old begun marked new result first second last = inl (record { begun = begun; marked = marked; body_first = first; mark_then = second; erase_last = last })

pub no_erase : (r : Shape) (next : ℕ) (due : Bool) (marked : FlashState) → due ≡ false → ErasesWhere r next due marked (Ok tt) marked
no_erase r next due marked e = subst (λ (b : Bool). ErasesWhere r next b marked (Ok tt) marked) (sym e) (refl, refl)

pub an_erase : (r : Shape) (next block : ℕ) (due : Bool) (marked new : FlashState) (result : Result (Unit {0}) FlashFault) → due ≡ true → block * r.per_block ≡ ahead_first r (next + 1) → ErasesBlock marked block result new
    → ErasesWhere r next due marked result new
an_erase r next block due marked new result e at erases = subst (λ (b : Bool). ErasesWhere r next b marked result new) (sym e) (record { block = block; at = at; erases = erases })
