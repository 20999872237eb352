-- The state that operations leave where all of them are done.
use Rattle.std.proofs.Common.{◌≡◌, ℕ, Bool, true, false, if◌then◌else◌, List, [], ◌∷◌, ◌++◌, drop, refl, sym, ◌∙◌, ap}
use Rattle.fl_model.specs.Within.{all_done}
use Rattle.fl_model.specs.Work.{VoidMark, Erase, Device, Whole, PartProgress, PartPerforms}
use Rattle.fl_model.proofs.Performs.{performs-whole}
use Rattle.fl_ring.specs.Operations.{change, seal_kinds, repair_kinds}
use Rattle.fl_ring.specs.Ring.{Shape, RingState, is_due, trimmed, sealed, voided, repaired, erased}

pub erased_clean : (s : RingState) → s.dirty ≡ false → erased s ≡ s
erased_clean s e = ap (λ b. record s { dirty = b }) (sym e)

-- a block waits where the oldest one goes
pub dirty_due : (r : Shape) (s : RingState) → s.dirty ≡ false → (trimmed r s).dirty ≡ is_due r s
dirty_due r s clean = go (is_due r s)
  where
    go : (b : Bool) → (if b then record s { kept = drop r.per_block s.kept; dirty = true } else s).dirty ≡ b
    go true = refl
    go false = clean

pub trimmed_torn : (r : Shape) (s : RingState) → (trimmed r s).torn ≡ s.torn
trimmed_torn r s = go (is_due r s)
  where
    go : (b : Bool) → (if b then record s { kept = drop r.per_block s.kept; dirty = true } else s).torn ≡ s.torn
    go true = refl
    go false = refl

seal_done : (r : Shape) (s : RingState) (body : List ℕ) → all_done (change r body) (seal_kinds r s body) s ≡ erased (sealed r s body)
seal_done r s body = go (sealed r s body).dirty refl
  where
    go : (b : Bool) → (sealed r s body).dirty ≡ b → all_done (change r body) (if b then Erase ∷ [] else []) (sealed r s body) ≡ erased (sealed r s body)
    go true e = refl
    go false e = sym (erased_clean (sealed r s body) e)

-- a whole seal
pub whole_seal : (r : Shape) (s : RingState) (body : List ℕ) (rose : Bool) (device : Device) (now : PartProgress RingState)
    → PartPerforms (λ kind. kind) (change r body) rose (seal_kinds r s body) device s now → now.end ≡ Whole → now.state ≡ erased (sealed r s body)
whole_seal r s body rose device now did whole = (performs-whole (λ kind. kind) (change r body) rose (seal_kinds r s body) device s now did whole).0 ∙ seal_done r s body

repair_done : (r : Shape) (s : RingState) (body : List ℕ) → all_done (change r body) (repair_kinds r s) s ≡ repaired r s
repair_done r s body = go s.torn refl
  where
    erase : (t : RingState) (b : Bool) → t.dirty ≡ b → all_done (change r body) (if b then Erase ∷ [] else []) t ≡ erased t
    erase t true e = refl
    erase t false e = sym (erased_clean t e)

    go : (b : Bool) → s.torn ≡ b → all_done (change r body) ((if b then VoidMark ∷ [] else []) ++ (if (if b then voided r s else s).dirty then Erase ∷ [] else [])) s ≡ erased (if b then voided r s else s)
    go true e = erase (voided r s) (voided r s).dirty refl
    go false e = erase s s.dirty refl

-- a whole repair
pub whole_repair : (r : Shape) (s : RingState) (body : List ℕ) (rose : Bool) (device : Device) (now : PartProgress RingState)
    → PartPerforms (λ kind. kind) (change r body) rose (repair_kinds r s) device s now → now.end ≡ Whole → now.state ≡ repaired r s
whole_repair r s body rose device now did whole = (performs-whole (λ kind. kind) (change r body) rose (repair_kinds r s) device s now did whole).0 ∙ repair_done r s body
