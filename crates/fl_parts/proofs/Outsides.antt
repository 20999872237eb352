-- The pages outside the index and the variable data of a table.
use Rattle.std.proofs.Common.{◌≡◌, ℕ, Option, Some, None, IfSome, List, sym, ◌∙◌, ap, subst, ◌⊎◌, ◌+◌, ◌<◌, ◌≤◌, inl, inr, arith, ◌*◌}
use Rattle.fl_base.specs.declared.types.Geometry.{Geometry}
use Rattle.fl_base.specs.declared.types.RingPlace.{RingPlace}
use Rattle.fl_index.specs.declared.index.BitmapIndex.{BitmapIndex}
use Rattle.fl_index.specs.Memory as memory
use Rattle.fl_ring.specs.Mounting.{shape_at}
use Rattle.fl_ring.specs.Ring.{Shape, room}
use Rattle.fl_var.specs.Memory.{var_shape}
use Rattle.fl_var.specs.declared.var_data.VarData.{VarData}
use Rattle.fl_var.proofs.Joins.{same-shape}
use Rattle.std.proofs.Math.Nat.{mul-le-mul_right}
use Rattle.fl_flash.specs.Flash.{FlashState, page_at}
use Rattle.fl_model.specs.Record.{Plan}
use Rattle.fl_model.specs.Table.{Table, IndexRing}
use Rattle.fl_parts.specs.Bitmaps.{AreSamePlan, ArePlanned, IsOutside, Stand, StandOutside}
use Rattle.fl_parts.specs.Blobs as variable
use Rattle.fl_parts.specs.Pages.{bytes_in}
use Rattle.fl_parts.proofs.BlobSeals.{before-var}
use Rattle.fl_parts.proofs.IndexOfTable.{stand-moved}
use Rattle.fl_parts.proofs.Plain.{IsPlainTable}

-- the same rings
pub bitmaps-outside : (a b : Option BitmapIndex) (page : ℕ) → AreSamePlan a b → IfSome a (λ index. IsOutside (memory.ring_shape index) page) → IfSome b (λ index. IsOutside (memory.ring_shape index) page)
bitmaps-outside None None page same h = h
bitmaps-outside None (Some b) page same h = absurd same
bitmaps-outside (Some a) None page same h = absurd same
bitmaps-outside (Some a) (Some b) page same h =
    subst (λ (r : Shape). IsOutside r page) (sym (ap (λ (p : RingPlace). shape_at p b.geometry) same.place ∙ ap (λ (g : Geometry). shape_at a.place g) (same.geometry))) h

pub blobs-outside : (a b : Option VarData) (page : ℕ) → variable.AreSamePlan a b → IfSome a (λ var. IsOutside (var_shape var) page) → IfSome b (λ var. IsOutside (var_shape var) page)
blobs-outside None None page same h = h
blobs-outside None (Some b) page same h = absurd same
blobs-outside (Some a) None page same h = absurd same
blobs-outside (Some a) (Some b) page same h = subst (λ (r : Shape). IsOutside r page) (sym (same-shape a b same)) h

-- a page outside the ring of variable data stands
pub var-outside : (blobs : Option VarData) (old new : ℕ → List ℕ) (page : ℕ) → variable.StandOutside blobs old new → IfSome blobs (λ var. IsOutside (var_shape var) page) → new page ≡ old page
var-outside None old new page h out = h page
var-outside (Some var) old new page h out = h page out

-- a page outside the index ring stands
pub stand-outside : (bitmaps : Option BitmapIndex) (old new : ℕ → List ℕ) (page : ℕ) → StandOutside bitmaps old new → IfSome bitmaps (λ index. IsOutside (memory.ring_shape index) page) → new page ≡ old page
stand-outside None old new page h out = h page
stand-outside (Some index) old new page h out = h page out

-- a page outside of the variable data isn't one that a blob may fill
pub not-filled : (blob : Option (List ℕ)) (blobs : Option VarData) (page : ℕ) → IfSome blobs (λ var. IsOutside (var_shape var) page) → variable.MayFill blob blobs page → ⊥
not-filled None blobs page out may = may
not-filled (Some bytes) None page out may = may
not-filled (Some bytes) (Some var) page out may = by_side out
  where
    by_side : (page < (var_shape var).first) ⊎ ((var_shape var).first + room (var_shape var) ≤ page) → ⊥
    by_side (inl below) = absurd (omega (arith, below, may.0))
    by_side (inr above) = absurd (omega (arith, above, may.1))

-- what a blob may fill is the same of other variable data with the same plan
pub fill-moved : (blob : Option (List ℕ)) (old new : Option VarData) → variable.AreSamePlan old new → (page : ℕ) → variable.MayFill blob new page → variable.MayFill blob old page
fill-moved None old new plan page may = absurd may
fill-moved (Some bytes) None None plan page may = absurd may
fill-moved (Some bytes) None (Some now) plan page may = absurd plan
fill-moved (Some bytes) (Some var) None plan page may = absurd may
fill-moved (Some bytes) (Some var) (Some now) plan page may = subst (λ (r : Shape). (r.first ≤ page) × (page < r.first + room r)) (same-shape var now plan) may

-- the index pages lie before those of variable data
pub index-before : (blobs : Option VarData) (old new : ℕ → List ℕ) (first : ℕ) (plan : Plan) → variable.ArePlanned blobs (first + plan.data_blocks + plan.index_blocks) plan → variable.StandOutside blobs old new → 0 < plan.index_blocks * plan.geometry.block → (n : ℕ) →
    bytes_in new first plan IndexRing n ≡ bytes_in old first plan IndexRing n
index-before None old new first plan planned outside some n = outside _
index-before (Some v) old new first plan planned outside some n = (before-var v old new first plan planned outside n).1 some

-- so the index stands where other parts of its table changed
pub bitmaps-moved : (indexed : Option BitmapIndex) (f g : FlashState) (first : ℕ) (plan : Plan) (table new : Table) → ArePlanned indexed (first + plan.data_blocks) plan → 2 ≤ plan.geometry.block → new.index ≡ table.index → new.index_pages ≡ table.index_pages → new.waiting ≡ table.waiting →
    new.rows.next ≡ table.rows.next → IsPlainTable plan new → (0 < plan.index_blocks * plan.geometry.block → (n : ℕ) → bytes_in (page_at g) first plan IndexRing n ≡ bytes_in (page_at f) first plan IndexRing n) →
    Stand indexed f (first + plan.data_blocks) plan table → Stand indexed g (first + plan.data_blocks) plan new
bitmaps-moved None f g first plan table new planned pages index listed waiting next after same s = waiting ∙ s
bitmaps-moved (Some indexed) f g first plan table new planned pages index listed waiting next after same s =
    let k : 3 * plan.geometry.block ≤ plan.index_blocks * plan.geometry.block = mul-le-mul_right plan.geometry.block (omega (arith, planned.blocks, indexed.some_blocks)) in
    stand-moved (Some indexed) f g first plan table new index listed waiting next after (same (omega (arith, k, pages))) s
