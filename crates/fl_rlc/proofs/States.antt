-- The pages of a log as a list of bodies, and in the words of the model's image.
use Rattle.std.proofs.Common.{◌≡◌, ℕ, zero, suc, ◌+◌, ◌<◌, ◌≤◌, cond, nat_lt, List, [], ◌∷◌, map, filter, length, refl, sym, ◌∙◌, ap, subst, arith}
use Rattle.std.specs.List.{AllByRecursion}
use Rattle.fl_model.specs.Facts.{IsLogPage}
use Rattle.fl_model.specs.Image.{IsRingImage, HoldsPage}
use Rattle.fl_model.specs.Record.{Plan, rows_per_page}
use Rattle.fl_model.specs.Ring as model
use Rattle.fl_model.specs.Table.{Entry, LogRing, shape_of}
use Rattle.fl_ring.specs.Counts.{model_shape}
use Rattle.fl_ring.specs.Ring.{Shape, RingState, IsShape, OnRing, place, oldest}
use Rattle.fl_ring.proofs.Bodies.{HoldBodies, bodies-fit}
use Rattle.fl_ring.proofs.Counts.{counts_ring}
use Rattle.fl_ring.proofs.HeldPages as held
use Rattle.fl_ring.proofs.HeldPages.{bodies_with, IsStateOf, image-of}
use Rattle.fl_ring.proofs.Images.{bytes_of}
use Rattle.fl_rlc.specs.Pages.{log_body, IsLogRing}
use Rattle.fl_rlc.proofs.Bodies.{rows_of, counted, counts_of, body-of, IsBody, some-rows, filter-some, bodies-each, bodies-few}

-- each page that isn't void has as many records as it counts
abbrev Each : List ℕ → List (List Entry) → Type 0
Each counts pages = map (λ rows. length rows) pages ≡ filter (nat_lt 0) counts

head-is : {a b : ℕ} {as' bs : List ℕ} → a ∷ as' ≡ b ∷ bs → a ≡ b
head-is e = cc

tail-is : {a b : ℕ} {as' bs : List ℕ} → a ∷ as' ≡ b ∷ bs → as' ≡ bs
tail-is e = cc

each-some : (c : ℕ) (counts : List ℕ) (p : List Entry) (pages : List (List Entry)) → Each (suc c ∷ counts) (p ∷ pages) → (length p ≡ suc c) × Each counts pages
each-some c counts p pages e = let k = e ∙ filter-some (suc c) counts (omega arith) in (head-is k, tail-is k)

each-none : (c : ℕ) (counts : List ℕ) → Each (suc c ∷ counts) [] → ⊥
each-none c counts e = no (e ∙ filter-some (suc c) counts (omega arith))
  where
    no : [] ≡ suc c ∷ filter (nat_lt 0) counts → ⊥
    no k = cc

with-bodies : (plan : Plan) (small : rows_per_page plan < 65536) (n : ℕ) (counts : List ℕ) (pages : List (List Entry)) → Each counts pages → AllByRecursion (λ count. count ≤ rows_per_page plan) counts →
    AllByRecursion (IsLogPage plan) pages → HoldBodies (IsBody plan) n (bodies_with (log_body plan) n counts pages) pages
with-bodies plan small n [] [] e few fit = tt
with-bodies plan small n [] (p ∷ pages) e few fit = absurd (no e)
  where
    no : length p ∷ map (λ (rows : List Entry). length rows) pages ≡ [] → ⊥
    no k = cc
with-bodies plan small n (zero ∷ counts) pages e few fit = with-bodies plan small (n + 1) counts pages e few.1 fit
with-bodies plan small n (suc c ∷ counts) [] e few fit = absurd (each-none c counts e)
with-bodies plan small n (suc c ∷ counts) (p ∷ pages) e few fit =
    let k = each-some c counts p pages e in
    (body-of plan n p small (record { some = omega (arith, k.0); few = omega (arith, k.0, few.0); page = fit.0 }), with-bodies plan small (n + 1) counts pages k.1 few.1 fit.1)

with-counts : (plan : Plan) (small : rows_per_page plan < 65536) (n : ℕ) (counts : List ℕ) (pages : List (List Entry)) → Each counts pages → AllByRecursion (λ count. count ≤ rows_per_page plan) counts →
    AllByRecursion (IsLogPage plan) pages → counts_of (bodies_with (log_body plan) n counts pages) ≡ counts
with-counts plan small n [] pages e few fit = refl
with-counts plan small n (zero ∷ counts) pages e few fit = ap (λ (l : List ℕ). 0 ∷ l) (with-counts plan small (n + 1) counts pages e few.1 fit)
with-counts plan small n (suc c ∷ counts) [] e few fit = absurd (each-none c counts e)
with-counts plan small n (suc c ∷ counts) (p ∷ pages) e few fit =
    let k = each-some c counts p pages e in
    let b : IsBody plan n (log_body plan n p) p = body-of plan n p small (record { some = omega (arith, k.0); few = omega (arith, k.0, few.0); page = fit.0 }) in
    ap (λ (l : List ℕ). rows_of (log_body plan n p) ∷ l) (with-counts plan small (n + 1) counts pages k.1 few.1 fit.1) ∙ ap (λ (x : ℕ). x ∷ counts) (b.count ∙ k.0)

-- the state of a ring of the model whose pages hold these records
abbrev pub state_of : Plan → model.Ring → List (List Entry) → RingState
state_of plan ring pages = held.state_of (log_body plan) ring pages

module _ (r : Shape) (plan : Plan) (page : ℕ → List ℕ) (sizes : (n : ℕ) → length (page (place r n)) ≡ r.size) (shape : IsShape r) (here : model_shape r ≡ shape_of plan LogRing) (small : rows_per_page plan < 65536) where
  pub state-is : (ring : model.Ring) (pages : List (List Entry)) → IsLogRing plan pages ring (bytes_of r page) → IsStateOf (IsBody plan) rows_of r page ring pages (state_of plan ring pages)
  state-is ring pages is =
      held.state-is (IsBody plan) (log_body plan) (λ n body p b. b.is) rows_of (some-rows plan) r page sizes shape ring pages
      (ap (λ (cs : List ℕ). record ring { counts = cs }) (with-counts plan small (model.oldest ring) ring.counts pages is.each is.few is.fit))
      (with-bodies plan small (model.oldest ring) ring.counts pages is.each is.few is.fit)
      (subst (λ (m : model.Shape). model.IsRing m ring) (sym here) is.facts)
      (subst (λ (m : model.Shape). IsRingImage m ring (bytes_of r page) (HoldsPage pages (log_body plan) ring)) (sym here) is.image)

  -- the ring of the model that a list of bodies is
  pub log-ring-of : (s : RingState) (pages : List (List Entry)) → OnRing r page s → HoldBodies (IsBody plan) (oldest s) s.kept pages → s.next + (cond s.torn 1 0) ≤ 4294967292 → IsLogRing plan pages (counted s) (bytes_of r page)
  log-ring-of s pages on bodies number = record {
    facts = subst (λ (m : model.Shape). model.IsRing m (counted s)) here (counts_ring rows_of r s on.ring);
    number = number;
    each = bodies-each plan (oldest s) s.kept pages bodies;
    few = bodies-few plan (oldest s) s.kept pages bodies;
    fit = bodies-fit (IsBody plan) (IsLogPage plan) (λ n body p b. b.good.page) (oldest s) s.kept pages bodies;
    image = subst (λ (m : model.Shape). IsRingImage m (counted s) (bytes_of r page) (HoldsPage pages (log_body plan) (counted s))) here
        (image-of (IsBody plan) (log_body plan) (λ n body p b. b.is) rows_of (some-rows plan) r page sizes shape s pages on bodies);
  }
