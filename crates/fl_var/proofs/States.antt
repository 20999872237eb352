-- The pages of a ring of variable data as a list of bodies, and in the words of the model's image.
use Rattle.std.proofs.Common.{◌≡◌, ℕ, zero, suc, ◌+◌, ◌<◌, ◌⊎◌, inl, inr, Option, Some, None, List, [], ◌∷◌, map, length, get_or, refl, sym, ◌∙◌, ap, subst, arith}
use Rattle.std.specs.List.{AllByRecursion}
use Rattle.std.specs.Prelude.{IfSome}
use Rattle.fl_model.specs.Facts.{IsContent}
use Rattle.fl_model.specs.Image.{IsRingImage, HoldsPage}
use Rattle.fl_model.specs.Layout.{ContentPage, content_body}
use Rattle.fl_model.specs.Record.{Plan}
use Rattle.fl_model.specs.Ring as model
use Rattle.fl_model.specs.Table.{VarRing, shape_of, full_pages}
use Rattle.fl_model.proofs.FullPages.{full-cons, full-one, full-void}
use Rattle.fl_ring.specs.Counts.{page_count, model_shape, HoldsSome}
use Rattle.fl_ring.specs.Ring.{Shape, RingState, IsShape, OnRing, place, oldest}
use Rattle.fl_ring.proofs.Bodies.{HoldBodies, bodies-fit}
use Rattle.fl_ring.proofs.Counts.{counts_ring}
use Rattle.fl_ring.proofs.HeldPages as held
use Rattle.fl_ring.proofs.HeldPages.{bodies_with, IsStateOf, image-of}
use Rattle.fl_ring.proofs.Images.{bytes_of}
use Rattle.fl_var.specs.Standing.{IsVarRing}
use Rattle.fl_var.proofs.Bodies.{once, counted, counts_of, IsBody, some-once, bodies-each}

pub all-once : (s : RingState) → HoldsSome once s
all-once s i lt = by_page (get_or s.kept i None)
  where
    by_page : (x : Option (List ℕ)) → IfSome x (λ body. 0 < once body)
    by_page None = tt
    by_page (Some body) = omega arith

-- there are as many contents as pages that aren't void
fewer : (c k : ℕ) (counts : List ℕ) → k ≡ full_pages (suc c ∷ counts) → k ≡ suc (full_pages counts)
fewer c k counts e = omega (arith, e, full-cons (suc c) counts, full-one (suc c) (omega arith))

same-void : (k : ℕ) (counts : List ℕ) → k ≡ full_pages (0 ∷ counts) → k ≡ full_pages counts
same-void k counts e = omega (arith, e, full-cons 0 counts, full-void 0 (omega arith))

with-counts : (n : ℕ) (counts : List ℕ) (pages : List ContentPage) → AllByRecursion (λ c. (c ≡ 0) ⊎ (c ≡ 1)) counts → length pages ≡ full_pages counts → counts_of (bodies_with content_body n counts pages) ≡ counts
with-counts n [] pages each e = refl
with-counts n (zero ∷ counts) pages each e = ap (λ (l : List ℕ). 0 ∷ l) (with-counts (n + 1) counts pages each.1 (same-void (length pages) counts e))
with-counts n (suc c ∷ counts) [] each e = absurd (omega (arith, fewer c 0 counts e))
with-counts n (suc c ∷ counts) (p ∷ pages) each e =
    ap (λ (l : List ℕ). 1 ∷ l) (with-counts (n + 1) counts pages each.1 (omega (arith, fewer c (suc (length pages)) counts e))) ∙ ap (λ (k : ℕ). k ∷ counts) (one each.0)
  where
    one : (suc c ≡ 0) ⊎ (suc c ≡ 1) → 1 ≡ suc c
    one (inl k) = absurd (omega (arith, k))
    one (inr k) = sym k

with-bodies : (plan : Plan) (n : ℕ) (counts : List ℕ) (pages : List ContentPage) → length pages ≡ full_pages counts → AllByRecursion (IsContent plan) pages → HoldBodies (IsBody plan) n (bodies_with content_body n counts pages) pages
with-bodies plan n [] [] e fit = tt
with-bodies plan n [] (p ∷ pages) e fit = absurd (omega (arith, e))
with-bodies plan n (zero ∷ counts) pages e fit = with-bodies plan (n + 1) counts pages (same-void (length pages) counts e) fit
with-bodies plan n (suc c ∷ counts) [] e fit = absurd (omega (arith, fewer c 0 counts e))
with-bodies plan n (suc c ∷ counts) (p ∷ pages) e fit = ((refl, fit.0), with-bodies plan (n + 1) counts pages (omega (arith, fewer c (suc (length pages)) counts e)) fit.1)

-- the state of a ring of the model whose pages hold these contents
abbrev pub state_of : model.Ring → List ContentPage → RingState
state_of ring pages = held.state_of content_body ring pages

module _ (r : Shape) (plan : Plan) (page : ℕ → List ℕ) (sizes : (n : ℕ) → length (page (place r n)) ≡ r.size) (shape : IsShape r) (here : model_shape r ≡ shape_of plan VarRing) where
  pub state-is : (ring : model.Ring) (pages : List ContentPage) → IsVarRing plan pages ring (bytes_of r page) → IsStateOf (IsBody plan) once r page ring pages (state_of ring pages)
  state-is ring pages is =
      held.state-is (IsBody plan) content_body (λ n body p b. b.0) once (some-once plan) r page sizes shape ring pages
      (ap (λ (cs : List ℕ). record ring { counts = cs }) (with-counts (model.oldest ring) ring.counts pages is.counts is.each))
      (with-bodies plan (model.oldest ring) ring.counts pages is.each is.fit)
      (subst (λ (m : model.Shape). model.IsRing m ring) (sym here) is.facts)
      (subst (λ (m : model.Shape). IsRingImage m ring (bytes_of r page) (HoldsPage pages content_body ring)) (sym here) is.image)

  -- the ring of the model that a list of bodies is
  pub var-ring-of : (s : RingState) (pages : List ContentPage) → OnRing r page s → HoldBodies (IsBody plan) (oldest s) s.kept pages → s.next < 4294967296 → IsVarRing plan pages (counted s) (bytes_of r page)
  var-ring-of s pages on bodies small = record {
    facts = subst (λ (m : model.Shape). model.IsRing m (counted s)) here (counts_ring once r s on.ring);
    counts = each s.kept;
    number = small;
    each = bodies-each plan (oldest s) s.kept pages bodies;
    fit = bodies-fit (IsBody plan) (IsContent plan) (λ n body p b. b.1) (oldest s) s.kept pages bodies;
    image = subst (λ (m : model.Shape). IsRingImage m (counted s) (bytes_of r page) (HoldsPage pages content_body (counted s))) here
        (image-of (IsBody plan) content_body (λ n body p b. b.0) once (some-once plan) r page sizes shape s pages on bodies);
  }
    where
      each : (xs : List (Option (List ℕ))) → AllByRecursion (λ c. (c ≡ 0) ⊎ (c ≡ 1)) (map (page_count once) xs)
      each [] = tt
      each (None ∷ xs) = (inl refl, each xs)
      each (Some body ∷ xs) = (inr refl, each xs)
