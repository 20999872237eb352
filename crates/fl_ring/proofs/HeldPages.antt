-- The pages of a ring that each hold something, as a list of bodies and in the words of the model's image.
use Rattle.std.proofs.Common.{◌≡◌, ℕ, zero, suc, ◌+◌, ◌-◌, ◌<◌, Option, Some, None, List, [], ◌∷◌, length, get_or, refl, sym, ◌∙◌, ap, subst}
use Rattle.std.proofs.lemmas.Option.{same_Some}
use Rattle.fl_model.specs.Image.{IsRingImage, HoldsPage}
use Rattle.fl_model.specs.Layout.{committed}
use Rattle.fl_model.specs.Ring as model
use Rattle.fl_ring.specs.Counts.{ring_counts, model_shape}
use Rattle.fl_ring.specs.Ring.{Shape, RingState, IsShape, OnRing, place, oldest}
use Rattle.fl_ring.proofs.Bodies.{HoldBodies, bodies-at, holds-some}
use Rattle.fl_ring.proofs.Counts.{counts_length, ring_from}
use Rattle.fl_ring.proofs.Images.{bytes_of, on_from_image, image_from_on}

-- the bodies of the pages from a number on, which hold these; `body_of` gives the body of a page with a number
abbrev pub bodies_with : {X : Type 0} → (ℕ → X → List ℕ) → ℕ → List ℕ → List X → List (Option (List ℕ))
bodies_with body_of n [] pages = []
bodies_with body_of n (zero ∷ counts) pages = None ∷ bodies_with body_of (n + 1) counts pages
bodies_with body_of n (suc c ∷ counts) [] = None ∷ bodies_with body_of (n + 1) counts []
bodies_with body_of n (suc c ∷ counts) (p ∷ pages) = Some (body_of n p) ∷ bodies_with body_of (n + 1) counts pages

-- the state of a ring of the model whose pages hold these
abbrev pub state_of : {X : Type 0} → (ℕ → X → List ℕ) → model.Ring → List X → RingState
state_of body_of ring pages = record { kept = bodies_with body_of (model.oldest ring) ring.counts pages; next = ring.next; torn = ring.torn; dirty = ring.dirty }

module _ {X : Type 0} (body_of : ℕ → X → List ℕ) where
  with-length : (n : ℕ) (counts : List ℕ) (pages : List X) → length (bodies_with body_of n counts pages) ≡ length counts
  with-length n [] pages = refl
  with-length n (zero ∷ counts) pages = ap suc (with-length (n + 1) counts pages)
  with-length n (suc c ∷ counts) [] = ap suc (with-length (n + 1) counts [])
  with-length n (suc c ∷ counts) (p ∷ pages) = ap suc (with-length (n + 1) counts pages)

  pub state-oldest : (ring : model.Ring) (pages : List X) → oldest (state_of body_of ring pages) ≡ model.oldest ring
  state-oldest ring pages = ap (λ n. ring.next - n) (with-length (model.oldest ring) ring.counts pages)

-- a ring of the model and what its pages hold, as a list of bodies
pub record IsStateOf {X : Type 0} (IsBody : ℕ → List ℕ → X → Type 0) (count_of : List ℕ → ℕ) (r : Shape) (page : ℕ → List ℕ) (ring : model.Ring) (pages : List X) (s : RingState) : Type 0 where
  pub counts : ring_counts count_of s ≡ ring
  pub on : OnRing r page s
  pub bodies : HoldBodies IsBody (oldest s) s.kept pages

module _ {X : Type 0} (IsBody : ℕ → List ℕ → X → Type 0) (body_of : ℕ → X → List ℕ) (body_is : (n : ℕ) (body : List ℕ) (p : X) → IsBody n body p → body ≡ body_of n p)
    (count_of : List ℕ → ℕ) (some : (n : ℕ) (body : List ℕ) (p : X) → IsBody n body p → 0 < count_of body)
    (r : Shape) (page : ℕ → List ℕ) (sizes : (n : ℕ) → length (page (place r n)) ≡ r.size) (shape : IsShape r) where
  pub state-is : (ring : model.Ring) (pages : List X) → ring_counts count_of (state_of body_of ring pages) ≡ ring → HoldBodies IsBody (model.oldest ring) (bodies_with body_of (model.oldest ring) ring.counts pages) pages →
      model.IsRing (model_shape r) ring → IsRingImage (model_shape r) ring (bytes_of r page) (HoldsPage pages body_of ring) → IsStateOf IsBody count_of r page ring pages (state_of body_of ring pages)
  state-is ring pages counts held facts image =
      let bodies : HoldBodies IsBody (oldest (state_of body_of ring pages)) (state_of body_of ring pages).kept pages =
      subst (λ n. HoldBodies IsBody n (bodies_with body_of (model.oldest ring) ring.counts pages) pages) (sym (state-oldest body_of ring pages)) held in
      record {
        counts = counts;
        on = on_from_image r page (state_of body_of ring pages) count_of sizes shape (holds-some IsBody count_of some (state_of body_of ring pages) pages bodies)
            (HoldsPage pages body_of (ring_counts count_of (state_of body_of ring pages)))
            (ring_from r (state_of body_of ring pages) ring.counts (sym (with-length body_of (model.oldest ring) ring.counts pages)) facts)
            (λ i body e h. bytes (state_of body_of ring pages) bodies i body e h)
            (subst (λ (k : model.Ring). IsRingImage (model_shape r) k (bytes_of r page) (HoldsPage pages body_of k)) (sym counts) image);
        bodies = bodies;
      }
    where
      bytes : (s : RingState) → HoldBodies IsBody (oldest s) s.kept pages → (i : ℕ) (body : List ℕ) → get_or s.kept i None ≡ Some body →
          HoldsPage pages body_of (ring_counts count_of s) i (count_of body) (page (place r (oldest s + i))) → page (place r (oldest s + i)) ≡ committed body
      bytes s bodies i body e h =
          let at = bodies-at IsBody count_of some (oldest s) s.kept pages i body bodies e in
          let same : h.holds ≡ at.holds = same_Some _ _ (sym h.is ∙ at.is) in
          h.bytes
          ∙ (ap (λ n. committed (body_of (s.next - n + i) h.holds)) (counts_length count_of s)
          ∙ (ap (λ (p : X). committed (body_of (oldest s + i) p)) same ∙ ap committed (sym (body_is (oldest s + i) body at.holds at.good))))

  -- the image of the ring that a list of bodies is
  pub image-of : (s : RingState) (pages : List X) → OnRing r page s → HoldBodies IsBody (oldest s) s.kept pages → IsRingImage (model_shape r) (ring_counts count_of s) (bytes_of r page) (HoldsPage pages body_of (ring_counts count_of s))
  image-of s pages on bodies =
      image_from_on r page s count_of sizes shape (holds-some IsBody count_of some s pages bodies) (HoldsPage pages body_of (ring_counts count_of s)) (λ i body e bytes. held i body e bytes) on
    where
      held : (i : ℕ) (body : List ℕ) → get_or s.kept i None ≡ Some body → page (place r (oldest s + i)) ≡ committed body → HoldsPage pages body_of (ring_counts count_of s) i (count_of body) (page (place r (oldest s + i)))
      held i body e bytes =
          let at = bodies-at IsBody count_of some (oldest s) s.kept pages i body bodies e in
          record {
            holds = at.holds;
            is = at.is;
            bytes = bytes ∙ (ap committed (body_is (oldest s + i) body at.holds at.good) ∙ ap (λ n. committed (body_of (s.next - n + i) at.holds)) (sym (counts_length count_of s)));
          }
