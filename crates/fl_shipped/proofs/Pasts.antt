-- What has happened to a source and its copy so far, as steps of a shipment.
use Rattle.std.proofs.Common.{◌≡◌, List, [], ◌∷◌, ◌++◌, refl, sym, ◌∙◌, ap, subst, inr}
use Rattle.std.specs.List.{AllByRecursion}
use Rattle.std.proofs.lemmas.List.{append-nil, append_assoc}
use Rattle.fl_model.specs.Record.{Record}
use Rattle.fl_model.specs.Ship.{Ascends, IsPart, IsWhole, Shipment, ShipmentStep, Shipments, nothing_yet}
use Rattle.fl_model.proofs.Lists.{each-push, each-back, each-weaker}
use Rattle.fl_model.proofs.CopiesAreParts.{parts, ascends-front}

-- steps that led from nothing to this shipment; all that was written before begins what was ever written
pub record Past (now : Shipment) : Type 0 where
  pub before : List Shipment
  pub steps : Shipments nothing_yet (before ++ now ∷ [])
  pub written : AllByRecursion (λ (s : Shipment). (more : List Record) × (now.ever ≡ s.ever ++ more)) before

steps-more : (first : Shipment) (before : List Shipment) (now next : Shipment) → Shipments first (before ++ now ∷ []) → ShipmentStep now next → Shipments first ((before ++ now ∷ []) ++ next ∷ [])
steps-more first [] now next h step = (h.0, (step, tt))
steps-more first (s ∷ before) now next h step = (h.0, steps-more s before now next h.1 step)

pub past-more : (now next : Shipment) (more : List Record) → next.ever ≡ now.ever ++ more → ShipmentStep now next → Past now → Past next
past-more now next more e step past = record {
  before = past.before ++ now ∷ [];
  steps = steps-more nothing_yet past.before now next past.steps step;
  written = each-push (λ (s : Shipment). (others : List Record) × (next.ever ≡ s.ever ++ others)) past.before now
      (each-weaker (λ (s : Shipment). (others : List Record) × (now.ever ≡ s.ever ++ others)) (λ (s : Shipment). (others : List Record) × (next.ever ≡ s.ever ++ others))
      (λ s h. (h.0 ++ more, e ∙ (ap (λ (rs : List Record). rs ++ more) h.1 ∙ append_assoc s.ever h.0 more))) past.before past.written)
      (more, e);
}

-- a step in which nothing is written
pub past-on : (now next : Shipment) → next.ever ≡ now.ever → ShipmentStep now next → Past now → Past next
past-on now next e step past = past-more now next [] (e ∙ sym (append-nil now.ever)) step past

pub past-begins : Past nothing_yet
past-begins = record {
  before = [];
  steps = (inr (inr (record { ever = refl; mounted = 0; source = refl; copy = record { given_up = 0; first = 0; kept = refl } })), tt);
  written = tt;
}

pub past-part : (now : Shipment) → Past now → Ascends now.ever → IsPart now.copy now.ever
past-part now past a =
    (each-back IsWhole past.before (now ∷ [])
    (parts (past.before ++ now ∷ []) past.steps
    (each-push (λ (s : Shipment). Ascends s.ever) past.before now
    (each-weaker (λ (s : Shipment). (more : List Record) × (now.ever ≡ s.ever ++ more)) (λ (s : Shipment). Ascends s.ever) (λ s h. ascends-front s.ever h.0 (subst Ascends h.1 a)) past.before past.written) a))).0
