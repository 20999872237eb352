-- Lists of operations of a part of the store: joined, in other words, and seen from a whole.
use Rattle.std.proofs.Common.{◌≡◌, Bool, cond, Option, Some, None, List, [], ◌∷◌, ◌++◌, map, refl, sym, ◌∙◌, subst, ◌⊎◌, inl, inr}
use Rattle.fl_base.specs.declared.types.CutKind.{CutKind}
use Rattle.fl_model.specs.Work.{Kind, Ending, AsBefore, AsAfter, Either, Leaves, ending_of, Device, cut_now, counted, PartEnd, Whole, CutIn, FailedIn, PartProgress, PartFirst, PartPerforms}
use Rattle.fl_model.specs.Within.{all_done, all_counted}

-- operations that were all done, and then others
pub performs-more : {O S : Type 0} (kind : O → Kind) (change : O → S → S) (rose : Bool) (operations others : List O) (device : Device) (s : S) (mid now : PartProgress S) →
    PartPerforms kind change rose operations device s mid → mid.end ≡ Whole → PartPerforms kind change rose others mid.device mid.state now →
    PartPerforms kind change rose (operations ++ others) device s now
performs-more {O} {S} kind change rose [] others device s mid now h whole k =
    subst (λ (d : Device). PartPerforms kind change rose others d s now) h.1 (subst (λ (t : S). PartPerforms kind change rose others mid.device t now) h.2 k)
performs-more {O} {S} kind change rose (operation ∷ operations) others device s mid now h whole k =
    first (cut_now device) h (λ g. performs-more kind change rose operations others (counted (kind operation) device) (change operation s) mid now g whole k)
  where
    first : (cut : Option CutKind) →
        PartFirst rose cut (kind operation) device s (change operation s) mid (PartPerforms kind change rose operations (counted (kind operation) device) (change operation s) mid) →
        (PartPerforms kind change rose operations (counted (kind operation) device) (change operation s) mid → PartPerforms kind change rose (operations ++ others) (counted (kind operation) device) (change operation s) now) →
        PartFirst rose cut (kind operation) device s (change operation s) now (PartPerforms kind change rose (operations ++ others) (counted (kind operation) device) (change operation s) now)
    first (Some c) h go = absurd (not_cut (sym (h.0) ∙ whole))
      where
        not_cut : CutIn s ≡ Whole → ⊥
        not_cut e = cc
    first None (inl h) go = absurd (not_failed (sym (h.1) ∙ whole))
      where
        not_failed : FailedIn s ≡ Whole → ⊥
        not_failed e = cc
    first None (inr h) go = inr (go h)

-- one of the first operations failed: others after them don't come to their turn
pub performs-front : {O S : Type 0} (kind : O → Kind) (change : O → S → S) (rose : Bool) (operations others : List O) (device : Device) (s : S) (now : PartProgress S) →
    PartPerforms kind change rose operations device s now → (now.end ≡ Whole → ⊥) → PartPerforms kind change rose (operations ++ others) device s now
performs-front {O} {S} kind change rose [] others device s now h broken = absurd (broken h.0)
performs-front {O} {S} kind change rose (operation ∷ operations) others device s now h broken =
    first (cut_now device) h (λ g. performs-front kind change rose operations others (counted (kind operation) device) (change operation s) now g broken)
  where
    first : (cut : Option CutKind) →
        PartFirst rose cut (kind operation) device s (change operation s) now (PartPerforms kind change rose operations (counted (kind operation) device) (change operation s) now) →
        (PartPerforms kind change rose operations (counted (kind operation) device) (change operation s) now → PartPerforms kind change rose (operations ++ others) (counted (kind operation) device) (change operation s) now) →
        PartFirst rose cut (kind operation) device s (change operation s) now (PartPerforms kind change rose (operations ++ others) (counted (kind operation) device) (change operation s) now)
    first (Some c) h go = h
    first None (inl h) go = inl h
    first None (inr h) go = inr (go h)

-- the same operations in other words
pub performs-map : {O Q S : Type 0} (kind : Q → Kind) (change : Q → S → S) (f : O → Q) (rose : Bool) (operations : List O) (device : Device) (s : S) (now : PartProgress S) →
    PartPerforms (λ o. kind (f o)) (λ o. change (f o)) rose operations device s now → PartPerforms kind change rose (map f operations) device s now
performs-map kind change f rose [] device s now h = h
performs-map {O} {Q} {S} kind change f rose (operation ∷ operations) device s now h =
    first (cut_now device) h (λ g. performs-map kind change f rose operations (counted (kind (f operation)) device) (change (f operation) s) now g)
  where
    first : (cut : Option CutKind) →
        PartFirst rose cut (kind (f operation)) device s (change (f operation) s) now (PartPerforms (λ o. kind (f o)) (λ o. change (f o)) rose operations (counted (kind (f operation)) device) (change (f operation) s) now) →
        (PartPerforms (λ o. kind (f o)) (λ o. change (f o)) rose operations (counted (kind (f operation)) device) (change (f operation) s) now → PartPerforms kind change rose (map f operations) (counted (kind (f operation)) device) (change (f operation) s) now) →
        PartFirst rose cut (kind (f operation)) device s (change (f operation) s) now (PartPerforms kind change rose (map f operations) (counted (kind (f operation)) device) (change (f operation) s) now)
    first (Some c) h go = h
    first None (inl h) go = inl h
    first None (inr h) go = inr (go h)

-- all operations were done: their effects and counts, one after another
pub performs-whole : {O S : Type 0} (kind : O → Kind) (change : O → S → S) (rose : Bool) (operations : List O) (device : Device) (s : S) (now : PartProgress S) →
    PartPerforms kind change rose operations device s now → now.end ≡ Whole → (now.state ≡ all_done change operations s) × (now.device ≡ all_counted kind operations device)
performs-whole kind change rose [] device s now h whole = (h.2, h.1)
performs-whole {O} {S} kind change rose (operation ∷ operations) device s now h whole =
    first (cut_now device) h (λ g. performs-whole kind change rose operations (counted (kind operation) device) (change operation s) now g whole)
  where
    first : (cut : Option CutKind) →
        PartFirst rose cut (kind operation) device s (change operation s) now (PartPerforms kind change rose operations (counted (kind operation) device) (change operation s) now) →
        (PartPerforms kind change rose operations (counted (kind operation) device) (change operation s) now → (now.state ≡ all_done change operations (change operation s)) × (now.device ≡ all_counted kind operations (counted (kind operation) device))) →
        (now.state ≡ all_done change operations (change operation s)) × (now.device ≡ all_counted kind operations (counted (kind operation) device))
    first (Some c) h go = absurd (not_cut (sym (h.0) ∙ whole))
      where
        not_cut : CutIn s ≡ Whole → ⊥
        not_cut e = cc
    first None (inl h) go = absurd (not_failed (sym (h.1) ∙ whole))
      where
        not_failed : FailedIn s ≡ Whole → ⊥
        not_failed e = cc
    first None (inr h) go = go h

-- Operations of one part go as those of another that stands in a relation to it, which may name the operations to come.
abbrev pub Somewhere : {O S T : Type 0} → (List O → S → T → Type 0) → S → T → Type 0
Somewhere {O} R s t = (operations : List O) × R operations s t

abbrev pub EndsAlong : {O S T : Type 0} → (List O → S → T → Type 0) → PartEnd S → PartEnd T → S → T → Type 0
EndsAlong R Whole Whole s t = R [] s t
EndsAlong R (CutIn s') (CutIn t') s t = Somewhere R s' t' × Somewhere R s t
EndsAlong R (FailedIn s') (FailedIn t') s t = Somewhere R s' t' × Somewhere R s t
EndsAlong R Whole (CutIn t') s t = ⊥
EndsAlong R Whole (FailedIn t') s t = ⊥
EndsAlong R (CutIn s') Whole s t = ⊥
EndsAlong R (CutIn s') (FailedIn t') s t = ⊥
EndsAlong R (FailedIn s') Whole s t = ⊥
EndsAlong R (FailedIn s') (CutIn t') s t = ⊥

-- how the other part's operations go
pub record GoesAlong {O S T : Type 0} (R : List O → S → T → Type 0) (kind : O → Kind) (change : O → T → T) (rose : Bool) (operations : List O) (device : Device) (t : T) (now : PartProgress S) : Type 0 where
  pub other : PartProgress T
  pub performs : PartPerforms kind change rose operations device t other
  pub device_is : other.device ≡ now.device
  pub ends : EndsAlong R now.end other.end now.state other.state

-- a failed operation leaves one of its ends in both parts
leaves-along : {S T : Type 0} (ending : Ending) (before after left : S) (before' after' : T) → Leaves ending before after left →
    (left' : T) × Leaves ending before' after' left' × (((left ≡ before) × (left' ≡ before')) ⊎ ((left ≡ after) × (left' ≡ after')))
leaves-along AsBefore before after left before' after' h = (before', refl, inl (h, refl))
leaves-along AsAfter before after left before' after' h = (after', refl, inr (h, refl))
leaves-along Either before after left before' after' (inl h) = (before', inl refl, inl (h, refl))
leaves-along Either before after left before' after' (inr h) = (after', inr refl, inr (h, refl))

pub performs-along : {O S T : Type 0} (R : List O → S → T → Type 0) (kind : O → Kind) (change : O → S → S) (change' : O → T → T) →
    ((o : O) (os : List O) (s : S) (t : T) → R (o ∷ os) s t → R os (change o s) (change' o t)) →
    (rose : Bool) (operations : List O) (device : Device) (s : S) (t : T) (now : PartProgress S) → R operations s t →
    PartPerforms kind change rose operations device s now → GoesAlong R kind change' rose operations device t now
performs-along {O} {S} {T} R kind change change' step rose [] device s t now r h =
    record { other = record { end = Whole; device = device; state = t }; performs = (refl, refl, refl); device_is = sym h.1; ends = whole now.end h.0 }
  where
    whole : (e : PartEnd S) → e ≡ Whole → EndsAlong R e Whole now.state t
    whole Whole e = subst (λ (x : S). R [] x t) (sym h.2) r
    whole (CutIn b) e = cc
    whole (FailedIn b) e = cc
performs-along {O} {S} {T} R kind change change' step rose (operation ∷ operations) device s t now r h =
    first (cut_now device) refl h (λ g. performs-along R kind change change' step rose operations (counted (kind operation) device) (change operation s) (change' operation t) now (step operation operations s t r) g)
  where
    left : (t' : T) → ((now.state ≡ s) × (t' ≡ t)) ⊎ ((now.state ≡ change operation s) × (t' ≡ change' operation t)) → Somewhere R now.state t'
    left t' (inl e) = (operation ∷ operations, subst (λ (x : S). R (operation ∷ operations) x t') (sym e.0) (subst (λ (y : T). R (operation ∷ operations) s y) (sym e.1) r))
    left t' (inr e) = (operations, subst (λ (x : S). R operations x t') (sym e.0) (subst (λ (y : T). R operations (change operation s) y) (sym e.1) (step operation operations s t r)))

    first : (cut : Option CutKind) → cut_now device ≡ cut →
        PartFirst rose cut (kind operation) device s (change operation s) now (PartPerforms kind change rose operations (counted (kind operation) device) (change operation s) now) →
        (PartPerforms kind change rose operations (counted (kind operation) device) (change operation s) now → GoesAlong R kind change' rose operations (counted (kind operation) device) (change' operation t) now) →
        GoesAlong R kind change' rose (operation ∷ operations) device t now
    first (Some c) e h go =
        let l = leaves-along (cond rose Either (ending_of c (kind operation))) s (change operation s) now.state t (change' operation t) h.2 in
        record {
          other = record { end = CutIn t; device = now.device; state = l.0 };
          performs = rw e (refl, h.1, l.1);
          device_is = refl;
          ends = rw h.0 ((operation ∷ operations, r), left l.0 l.2);
        }
    first None e (inl h) go =
        let l = leaves-along Either s (change operation s) now.state t (change' operation t) h.3 in
        record {
          other = record { end = FailedIn t; device = now.device; state = l.0 };
          performs = rw e (inl (h.0, refl, h.2, l.1));
          device_is = refl;
          ends = rw h.1 ((operation ∷ operations, r), left l.0 l.2);
        }
    first None e (inr h) go =
        let g = go h in
        record { other = g.other; performs = rw e (inr g.performs); device_is = g.device_is; ends = g.ends }
