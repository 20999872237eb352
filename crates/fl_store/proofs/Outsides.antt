-- The pages outside the rings of a table and its log, over calls that keep its plan.
use Rattle.std.proofs.Common.{ℕ, Option, None, Some, IfSome, List, sym, ◌∙◌, ap, subst}
use Rattle.fl_base.specs.declared.types.Geometry.{Geometry}
use Rattle.fl_base.specs.declared.types.RingPlace.{RingPlace}
use Rattle.fl_ring.specs.Mounting.{shape_at}
use Rattle.fl_ring.specs.Ring.{Shape}
use Rattle.fl_parts.specs.Bitmaps.{IsOutside}
use Rattle.fl_parts.proofs.Outsides.{bitmaps-outside, blobs-outside}
use Rattle.fl_rlc.specs.Memory.{log_shape}
use Rattle.fl_rlc.specs.Table.{AreSameLog, IsSamePlan, OutsideStands}
use Rattle.fl_rlc.specs.declared.log.RecordLog.{RecordLog}
use Rattle.fl_rlc.specs.declared.table.LoggedTable.{LoggedTable}

log-outside : (a b : Option RecordLog) (page : ℕ) → AreSameLog a b → IfSome a (λ l. IsOutside (log_shape l) page) → IfSome b (λ l. IsOutside (log_shape l) page)
log-outside None None page same h = h
log-outside None (Some b) page same h = absurd same
log-outside (Some a) None page same h = absurd same
log-outside (Some a) (Some b) page same h =
    subst (λ (r : Shape). IsOutside r page) (sym (ap (λ (p : RingPlace). shape_at p b.geometry) same.place ∙ ap (λ (g : Geometry). shape_at a.place g) same.geometry)) h

-- one call after another
pub outside-then : (t u : LoggedTable 64 64) (a b c : ℕ → List ℕ) → IsSamePlan t u → OutsideStands t a b → OutsideStands u b c → OutsideStands t a c
outside-then t u a b c same h k = λ page rows index blobs log.
    k page (subst (λ (r : Shape). IsOutside r page) (sym (ap (λ (p : RingPlace). shape_at p u.table.geometry) same.table.place ∙ ap (λ (g : Geometry). shape_at t.table.place g) same.table.geometry)) rows)
    (bitmaps-outside t.table.bitmaps u.table.bitmaps page same.table.bitmaps index) (blobs-outside t.table.blobs u.table.blobs page same.table.blobs blobs) (log-outside t.log u.log page same.log log)
    ∙ h page rows index blobs log
