-- The index pages that are kept have the bytes that they had.
use Rattle.std.proofs.Common.{◌≡◌, ℕ, ◌<◌, ◌≤◌, Some, List, refl, sym, ◌∙◌, ap, subst, arith}
use Rattle.std.proofs.lemmas.Option.{same_Some}
use Rattle.fl_model.specs.Record.{Plan}
use Rattle.fl_model.specs.Ring.{Ring}
use Rattle.fl_model.specs.Table.{Table}
use Rattle.fl_ring.specs.Counts.{ring_counts}
use Rattle.fl_ring.specs.Kept.{PagesStand}
use Rattle.fl_ring.specs.Ring.{RingState, IsShape, IsRing, oldest, place, sealed, erased}
use Rattle.fl_ring.proofs.SealKeepsPages.{seal_stands}
use Rattle.fl_index.specs.Standing.{bytes_in}
use Rattle.fl_index.proofs.State.{shape_in, full_count, IsStateOf}

-- nothing changed
pub nothing-stands : (first : ℕ) (plan : Plan) (table : Table) (page : ℕ → List ℕ) (before after : Ring) → table.index ≡ Some before → table.index ≡ Some after →
    PagesStand before (bytes_in page first plan) after (bytes_in page first plan)
nothing-stands first plan table page before after is is_now =
    let same : before ≡ after = same_Some _ _ (sym is ∙ is_now) in
    subst (λ (ring : Ring). PagesStand before (bytes_in page first plan) ring (bytes_in page first plan)) same (record { later = omega arith; further = omega arith; bytes = λ number from below. refl })

-- a page was sealed, and the block ahead erased where it was due
pub seal-stands : (first : ℕ) (plan : Plan) (body : List ℕ) (table : Table) (s : RingState) (is : IsStateOf plan table s) (page page_now : ℕ → List ℕ) → IsShape (shape_in first plan) → IsRing (shape_in first plan) s →
    ((n : ℕ) → oldest (sealed (shape_in first plan) s body) ≤ n → n < s.next → page_now (place (shape_in first plan) n) ≡ page (place (shape_in first plan) n)) →
    (sealed_table : Table) (left : RingState) → left ≡ erased (sealed (shape_in first plan) s body) → IsStateOf plan sealed_table left →
    (before after : Ring) → table.index ≡ Some before → sealed_table.index ≡ Some after → PagesStand before (bytes_in page first plan) after (bytes_in page_now first plan)
seal-stands first plan body table s is page page_now shape ring keeps sealed_table left all state before after was now =
    let begin : before ≡ ring_counts (full_count plan) s = same_Some _ _ (sym was ∙ is.facts.ring_is) ∙ is.counts in
    let end : after ≡ ring_counts (full_count plan) (erased (sealed (shape_in first plan) s body)) = same_Some _ _ (sym now ∙ state.facts.ring_is) ∙ state.counts ∙ ap (ring_counts (full_count plan)) all in
    subst (λ (a : Ring). PagesStand a (bytes_in page first plan) after (bytes_in page_now first plan)) (sym begin)
    (subst (λ (b : Ring). PagesStand (ring_counts (full_count plan) s) (bytes_in page first plan) b (bytes_in page_now first plan)) (sym end)
    (seal_stands (full_count plan) (shape_in first plan) s body (bytes_in page first plan) (bytes_in page_now first plan) shape ring keeps))
