-- The pages outside a table's rings, over calls that keep its plan.
use Rattle.std.proofs.Common.{ℕ, List, sym, ◌∙◌, ap, subst}
use Rattle.fl_base.specs.declared.types.Geometry.{Geometry}
use Rattle.fl_base.specs.declared.types.RingPlace.{RingPlace}
use Rattle.fl_ring.specs.Mounting.{shape_at}
use Rattle.fl_ring.specs.Ring.{Shape}
use Rattle.fl_parts.specs.Bitmaps.{IsOutside}
use Rattle.fl_parts.proofs.Outsides.{bitmaps-outside, blobs-outside}
use Rattle.fl_table.specs.Memory.{IsSamePlan}
use Rattle.fl_table.specs.Mounting.{OutsideStands}
use Rattle.fl_table.specs.declared.table.Table.{Table}

pub outside-same : {KNOTS SLOTS : ℕ} (t u : Table KNOTS SLOTS) (old new : ℕ → List ℕ) → IsSamePlan t u → OutsideStands u old new → OutsideStands t old new
outside-same t u old new same h = λ page rows index blobs.
    h page (subst (λ (r : Shape). IsOutside r page) (sym (ap (λ (p : RingPlace). shape_at p u.geometry) same.place ∙ ap (λ (g : Geometry). shape_at t.place g) (same.geometry))) rows)
    (bitmaps-outside t.bitmaps u.bitmaps page same.bitmaps index) (blobs-outside t.blobs u.blobs page same.blobs blobs)

-- one call after another
pub outside-then : {KNOTS SLOTS : ℕ} (t u : Table KNOTS SLOTS) (a b c : ℕ → List ℕ) → IsSamePlan t u → OutsideStands t a b → OutsideStands u b c → OutsideStands t a c
outside-then t u a b c same h k = λ page rows index blobs. outside-same t u b c same k page rows index blobs ∙ h page rows index blobs
