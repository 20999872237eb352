-- The index ring of a table as a list of bodies.
use Rattle.std.proofs.Common.{◌≡◌, ℕ, zero, suc, ◌+◌, ◌-◌, ◌*◌, ◌<◌, ◌⊎◌, inl, inr, Option, Some, None, IfSome, List, [], ◌∷◌, ◌++◌, length, take, map, replicate, get_or, refl, sym, ◌∙◌, ap, subst, arith, length-append}
use Rattle.std.specs.List.{slice_get, AllByRecursion}
use Rattle.std.proofs.lemmas.Option.{none-some}
use Rattle.fl_model.specs.Record.{Plan, entries_per_page}
use Rattle.fl_model.specs.Ring as model
use Rattle.fl_model.specs.Table.{Table, IndexRing, shape_of, full_pages}
use Rattle.fl_model.specs.Layout.{IndexPage, committed, index_body}
use Rattle.fl_model.specs.Image.{IsRingImage, HoldsEntries}
use Rattle.fl_model.proofs.Lists.{each-at, slice_get-some}
use Rattle.fl_ring.specs.Counts.{page_count, ring_counts, HoldsSome}
use Rattle.fl_ring.specs.Ring.{Shape, RingState, IsShape, OnRing, count, oldest, place}
use Rattle.fl_ring.proofs.Counts.{ring_from}
use Rattle.fl_ring.proofs.Images.{on_from_image, image_from_on}
use Rattle.fl_index.specs.Standing.{HasIndex, HoldsIndex, bytes_in}

-- where the index ring of a table stands whose blocks begin at `first`
abbrev pub shape_in : ℕ → Plan → Shape
shape_in first plan = record { first = first * plan.geometry.block; blocks = plan.index_blocks; per_block = plan.geometry.block; size = plan.geometry.page }

-- each page of the ring has its size
abbrev pub HaveSize : ℕ → Plan → (ℕ → List ℕ) → Type 0
HaveSize first plan page = (n : ℕ) → length (page (place (shape_in first plan) n)) ≡ plan.geometry.page

-- each page with entries has as many as an index page holds
abbrev pub full_count : Plan → List ℕ → ℕ
full_count plan body = entries_per_page plan

-- a state of the ring whose bodies list what the table's index does
pub record IsStateOf (plan : Plan) (table : Table) (s : RingState) : Type 0 where
  pub ring : model.Ring
  pub facts : HasIndex plan table ring
  pub counts : ring ≡ ring_counts (full_count plan) s
  pub bodies : (i : ℕ) (body : List ℕ) → i < count s → get_or s.kept i None ≡ Some body → HoldsEntries plan table ring i (entries_per_page plan) (committed body)

-- the bodies of the pages from a number on
abbrev pub body_where : ℕ → ℕ → List ℕ → Option (List ℕ)
body_where size zero page = None
body_where size (suc n) page = Some (take (size - 8) page)

abbrev pub bodies_from : ℕ → (ℕ → List ℕ) → ℕ → List ℕ → List (Option (List ℕ))
bodies_from size page number [] = []
bodies_from size page number (c ∷ counts) = body_where size c (page number) ∷ bodies_from size page (number + 1) counts

bodies-length : (size : ℕ) (page : ℕ → List ℕ) (number : ℕ) (counts : List ℕ) → length (bodies_from size page number counts) ≡ length counts
bodies-length size page number [] = refl
bodies-length size page number (c ∷ counts) = ap suc (bodies-length size page (number + 1) counts)

bodies-at : (size : ℕ) (page : ℕ → List ℕ) (number : ℕ) (counts : List ℕ) (i c : ℕ) → slice_get counts i ≡ Some c → get_or (bodies_from size page number counts) i None ≡ body_where size c (page (number + i))
bodies-at size page number [] i c e = absurd (none-some c e)
bodies-at size page number (x ∷ counts) zero c e =
    let same : x ≡ c = cc in
    ap (λ (k : ℕ). body_where size k (page number)) same ∙ ap (λ (n : ℕ). body_where size c (page n)) (omega arith)
bodies-at size page number (x ∷ counts) (suc i) c e =
    bodies-at size page (number + 1) counts i c e ∙ ap (λ (n : ℕ). body_where size c (page n)) (let k : number + 1 + i ≡ number + suc i = omega arith in k)

bodies-count : (X size : ℕ) (page : ℕ → List ℕ) (number : ℕ) (counts : List ℕ) → AllByRecursion (λ count. (count ≡ 0) ⊎ (count ≡ X)) counts → 0 < X →
    map (page_count (λ body. X)) (bodies_from size page number counts) ≡ counts
bodies-count X size page number [] each some = refl
bodies-count X size page number (c ∷ counts) each some =
    ap (λ (k : ℕ). k ∷ map (page_count (λ body. X)) (bodies_from size page (number + 1) counts)) (one c each.0)
    ∙ ap (λ (ks : List ℕ). c ∷ ks) (bodies-count X size page (number + 1) counts each.1 some)
  where
    one : (c : ℕ) → (c ≡ 0) ⊎ (c ≡ X) → page_count (λ body. X) (body_where size c (page number)) ≡ c
    one zero h = refl
    one (suc c) (inl e) = absurd (omega (arith, e))
    one (suc c) (inr e) = sym e

-- where a body stands there is a count
body-some : (size c : ℕ) (page body : List ℕ) → body_where size c page ≡ Some body → (0 < c) × (body ≡ take (size - 8) page)
body-some size zero page body e = absurd (none-some body e)
body-some size (suc c) page body e = (omega arith, sym (same e))
  where
    same : Some (take (size - 8) page) ≡ Some body → take (size - 8) page ≡ body
    same e = cc

-- a committed page is its body and its marks
pub committed-body : (size : ℕ) (page body : List ℕ) → length page ≡ size → page ≡ committed body → take (size - 8) page ≡ body
committed-body size page body len is =
    let e = ap length is in
    let k : length (committed body) ≡ length body + 8 = omega (arith, length-append (body ++ replicate 4 0) (replicate 4 255), length-append body (replicate 4 0)) in
    let n : size - 8 ≡ length body = omega (arith, e, k, len) in
    ap (take (size - 8)) is ∙ (ap (λ m. take m (body ++ replicate 4 0 ++ replicate 4 255)) n ∙ front body)
  where
    front : (body : List ℕ) → take (length body) (body ++ replicate 4 0 ++ replicate 4 255) ≡ body
    front [] = refl
    front (b ∷ bs) = ap (λ (xs : List ℕ). b ∷ xs) (front bs)

-- What holds of an index page by other names of the same things.
pub holds-moved : (plan : Plan) (t t' : Table) (ring ring' : model.Ring) (i i' count : ℕ) (page : List ℕ) → model.oldest ring' + i' ≡ model.oldest ring + i →
    ((p : IndexPage) → slice_get t.index_pages (full_pages (take i ring.counts)) ≡ Some p → slice_get t'.index_pages (full_pages (take i' ring'.counts)) ≡ Some p) →
    HoldsEntries plan t ring i count page → HoldsEntries plan t' ring' i' count page
holds-moved plan t t' ring ring' i i' count page at pages h = record {
  holds = h.holds;
  is = pages h.holds h.is;
  bytes = h.bytes ∙ ap (λ n. committed (index_body plan n h.holds.first h.holds.entries)) (sym at);
}

pub kept-short : (kept : List (Option (List ℕ))) (i : ℕ) (body : List ℕ) → get_or kept i None ≡ Some body → i < length kept
kept-short [] i body e = absurd (none-some body e)
kept-short (x ∷ kept) zero body e = omega arith
kept-short (x ∷ kept) (suc i) body e = let k = kept-short kept i body e in omega (arith, k)

-- the state of the index ring whose pages are these
abbrev pub index_state : ℕ → Plan → (ℕ → List ℕ) → model.Ring → RingState
index_state first plan page ring = record {
  kept = bodies_from plan.geometry.page (bytes_in page first plan) (model.oldest ring) ring.counts;
  next = ring.next;
  torn = ring.torn;
  dirty = ring.dirty;
}

-- each of its pages with a body has entries
pub has-some : (plan : Plan) → 0 < entries_per_page plan → (s : RingState) → HoldsSome (full_count plan) s
has-some plan some s i lt = by_body (get_or s.kept i None)
  where
    by_body : (x : Option (List ℕ)) → IfSome x (λ body. 0 < entries_per_page plan)
    by_body None = tt
    by_body (Some body) = some

module _ (first : ℕ) (plan : Plan) (page : ℕ → List ℕ) (sizes : HaveSize first plan page) (shape : IsShape (shape_in first plan)) (some : 0 < entries_per_page plan) where
  -- the state that a flash stands for
  pub record Found (table : Table) : Type 0 where
    pub s : RingState
    pub is : IsStateOf plan table s
    pub on : OnRing (shape_in first plan) page s

  pub to-state : (table : Table) (ring : model.Ring) → HasIndex plan table ring → HoldsIndex page first plan table ring → Found table
  to-state table ring facts image = record {
    s = index_state first plan page ring;
    is = record { ring = ring; facts = facts; counts = counts; bodies = bodies };
    on = on_from_image (shape_in first plan) page (index_state first plan page ring) (full_count plan) sizes shape (has-some plan some (index_state first plan page ring)) (HoldsEntries plan table ring)
        (ring_from (shape_in first plan) (index_state first plan page ring) ring.counts (sym len) facts.is_ring)
        (λ i body at h. page_is i body at h)
        (subst (λ (r : model.Ring). IsRingImage (shape_of plan IndexRing) r (bytes_in page first plan) (HoldsEntries plan table ring)) counts image);
  }
    where
      len : count (index_state first plan page ring) ≡ length ring.counts
      len = bodies-length plan.geometry.page (bytes_in page first plan) (model.oldest ring) ring.counts

      counts : ring ≡ ring_counts (full_count plan) (index_state first plan page ring)
      counts = ap (λ (cs : List ℕ). record { counts = cs; next = ring.next; torn = ring.torn; dirty = ring.dirty })
          (sym (bodies-count (entries_per_page plan) plan.geometry.page (bytes_in page first plan) (model.oldest ring) ring.counts facts.counts some))

      old : (i : ℕ) → bytes_in page first plan (model.oldest ring + i) ≡ page (place (shape_in first plan) (oldest (index_state first plan page ring) + i))
      old i = ap (λ n. page (place (shape_in first plan) (ring.next - n + i))) (sym len)

      body_is : (i : ℕ) (body : List ℕ) → get_or (index_state first plan page ring).kept i None ≡ Some body → i < length ring.counts →
          (c : ℕ) × (slice_get ring.counts i ≡ Some c) × (0 < c) × (body ≡ take (plan.geometry.page - 8) (bytes_in page first plan (model.oldest ring + i)))
      body_is i body at lt =
          let c = slice_get-some ring.counts i lt in
          let b = body-some plan.geometry.page c.0 (bytes_in page first plan (model.oldest ring + i)) body (sym (bodies-at plan.geometry.page (bytes_in page first plan) (model.oldest ring) ring.counts i c.0 c.1) ∙ at) in
          (c.0, c.1, b.0, b.1)

      page_is : (i : ℕ) (body : List ℕ) → get_or (index_state first plan page ring).kept i None ≡ Some body →
          HoldsEntries plan table ring i (entries_per_page plan) (page (place (shape_in first plan) (oldest (index_state first plan page ring) + i))) →
          page (place (shape_in first plan) (oldest (index_state first plan page ring) + i)) ≡ committed body
      page_is i body at h =
          let lt = kept-short (index_state first plan page ring).kept i body at in
          let b = body_is i body at (omega (arith, lt, len)) in
          let whole = committed-body plan.geometry.page (page (place (shape_in first plan) (oldest (index_state first plan page ring) + i))) (index_body plan (model.oldest ring + i) h.holds.first h.holds.entries)
          (sizes (oldest (index_state first plan page ring) + i)) h.bytes in
          h.bytes ∙ ap committed (sym (b.3 ∙ (ap (take (plan.geometry.page - 8)) (old i) ∙ whole)))

      as_full : (i c : ℕ) → (c ≡ 0) ⊎ (c ≡ entries_per_page plan) → 0 < c → HoldsEntries plan table ring i c (bytes_in page first plan (model.oldest ring + i)) →
          HoldsEntries plan table ring i (entries_per_page plan) (bytes_in page first plan (model.oldest ring + i))
      as_full i c (inl e) some h = absurd (omega (arith, e, some))
      as_full i c (inr e) some h = subst (λ (k : ℕ). HoldsEntries plan table ring i k (bytes_in page first plan (model.oldest ring + i))) e h

      bodies : (i : ℕ) (body : List ℕ) → i < count (index_state first plan page ring) → get_or (index_state first plan page ring).kept i None ≡ Some body → HoldsEntries plan table ring i (entries_per_page plan) (committed body)
      bodies i body lt at =
          let b = body_is i body at (omega (arith, lt, len)) in
          let h = as_full i b.0 (each-at (λ count. (count ≡ 0) ⊎ (count ≡ entries_per_page plan)) ring.counts i b.0 facts.counts b.1) b.2 (image.kept i b.0 b.1 b.2) in
          let is = page_is i body at (subst (λ (p : List ℕ). HoldsEntries plan table ring i (entries_per_page plan) p) (old i) h) in
          subst (λ (p : List ℕ). HoldsEntries plan table ring i (entries_per_page plan) p) (old i ∙ is) h

  -- and back
  pub to-index : (table : Table) (s : RingState) (is : IsStateOf plan table s) → OnRing (shape_in first plan) page s → HoldsIndex page first plan table is.ring
  to-index table s is on =
      subst (λ (r : model.Ring). IsRingImage (shape_of plan IndexRing) r (bytes_in page first plan) (HoldsEntries plan table is.ring)) (sym is.counts)
      (image_from_on (shape_in first plan) page s (full_count plan) sizes shape (has-some plan some s) (HoldsEntries plan table is.ring)
      (λ i body at page_is. subst (λ (p : List ℕ). HoldsEntries plan table is.ring i (entries_per_page plan) p) (sym page_is) (is.bodies i body (kept-short s.kept i body at) at)) on)
