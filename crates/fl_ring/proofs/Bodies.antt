-- The bodies of a ring's pages, and what each holds, while pages are added to it.
use Rattle.std.proofs.Common.{◌≡◌, ℕ, zero, suc, ◌+◌, ◌<◌, ◌≤◌, Bool, true, false, cond, Option, Some, None, IfSome, List, [], ◌∷◌, ◌++◌, map, length, take, drop, get_or, refl, sym, ◌∙◌, ap, subst, arith, length-append, length-drop}
use Rattle.std.specs.Prelude.{is_some}
use Rattle.std.specs.List.{slice_get, list_any, AllByRecursion}
use Rattle.std.proofs.lemmas.List.{drop-append-le, length-map}
use Rattle.std.proofs.lemmas.Bool.{true≢false}
use Rattle.std.proofs.lemmas.Option.{none-some, same_Some}
use Rattle.fl_model.specs.Mount.{least_alike}
use Rattle.fl_model.specs.Ring as model
use Rattle.fl_model.specs.Table.{full_pages}
use Rattle.fl_model.proofs.FullPages.{full-cons, full-one, full-void, full-pushed}
use Rattle.fl_model.proofs.Lists.{drop_none, take_none}
use Rattle.fl_ring.specs.Counts.{page_count, ring_counts, model_shape, HoldsSome}
use Rattle.fl_ring.specs.Newest.{number_of}
use Rattle.fl_ring.specs.Numbers.{renumbered, IsNumbered}
use Rattle.fl_ring.specs.Ring.{Shape, RingState, IsShape, room, count, oldest, is_due, is_due_at, appended, trimmed}
use Rattle.fl_ring.proofs.Facts.{due_true, two_blocks}
use Rattle.fl_ring.proofs.Whole.{trimmed_torn}

-- the bodies of pages from a number on hold these, one for each page that isn't void; `IsBody` says what the body of a page with a number holds
abbrev pub HoldBodies : {X : Type 0} → (ℕ → List ℕ → X → Type 0) → ℕ → List (Option (List ℕ)) → List X → Type 0
HoldBodies IsBody n [] [] = Unit {0}
HoldBodies IsBody n [] (p ∷ pages) = ⊥
HoldBodies IsBody n (None ∷ kept) pages = HoldBodies IsBody (n + 1) kept pages
HoldBodies IsBody n (Some body ∷ kept) [] = ⊥
HoldBodies IsBody n (Some body ∷ kept) (p ∷ pages) = IsBody n body p × HoldBodies IsBody (n + 1) kept pages

pub full-none : (counts : List ℕ) → full_pages (0 ∷ counts) ≡ full_pages counts
full-none counts = omega (arith, full-cons 0 counts, full-void 0 (omega arith))

pub full-some : (c : ℕ) (counts : List ℕ) → 0 < c → full_pages (c ∷ counts) ≡ suc (full_pages counts)
full-some c counts some = omega (arith, full-cons c counts, full-one c some)

-- what a page that is added, and then the oldest block where it goes, makes of a ring
module _ (r : Shape) (s : RingState) (x : Option (List ℕ)) where
  abbrev more : RingState
  more = appended s x

  abbrev went : RingState
  went = record (appended s x) { kept = drop r.per_block (s.kept ++ x ∷ []); dirty = true }

  len : length (s.kept ++ x ∷ []) ≡ count s + 1
  len = length-append s.kept (x ∷ [])

  pub kept-known : count s ≤ s.next → count (trimmed r (appended s x)) ≤ (trimmed r (appended s x)).next
  kept-known known = by_due (is_due r (appended s x))
    where
      by_due : (b : Bool) → count (cond b went more) ≤ (cond b went more).next
      by_due true = omega (arith, length-drop r.per_block (s.kept ++ x ∷ []), len, known)
      by_due false = omega (arith, len, known)

  pub kept-next : (trimmed r (appended s x)).next ≡ s.next + 1
  kept-next = by_due (is_due r (appended s x))
    where
      by_due : (b : Bool) → (cond b went more).next ≡ s.next + 1
      by_due true = refl
      by_due false = refl

  pub kept-torn : (trimmed r (appended s x)).torn ≡ false
  kept-torn = trimmed_torn r (appended s x)

  pub kept-later : count s ≤ s.next → oldest s ≤ oldest (trimmed r (appended s x))
  kept-later known = by_due (is_due r (appended s x))
    where
      by_due : (b : Bool) → oldest s ≤ oldest (cond b went more)
      by_due true = omega (arith, length-drop r.per_block (s.kept ++ x ∷ []), len, known)
      by_due false = omega (arith, len, known)

  -- a whole block is kept beside the page
  enough : IsShape r → is_due r (appended s x) ≡ true → r.per_block ≤ count s
  enough shape e = let due = due_true r (s.next + 1) (count (appended s x)) shape e in omega (arith, due.many, len, two_blocks r shape, shape.per_block)

module _ {X : Type 0} (IsBody : ℕ → List ℕ → X → Type 0) where
  pub bodies-fit : (P : X → Type 0) → ((n : ℕ) (body : List ℕ) (p : X) → IsBody n body p → P p) → (n : ℕ) (kept : List (Option (List ℕ))) (pages : List X) → HoldBodies IsBody n kept pages → AllByRecursion P pages
  bodies-fit P fit n [] [] h = tt
  bodies-fit P fit n [] (p ∷ pages) h = absurd h
  bodies-fit P fit n (None ∷ kept) pages h = bodies-fit P fit (n + 1) kept pages h
  bodies-fit P fit n (Some body ∷ kept) [] h = absurd h
  bodies-fit P fit n (Some body ∷ kept) (p ∷ pages) h = (fit n body p h.0, bodies-fit P fit (n + 1) kept pages h.1)

  -- one page more
  pub bodies-push : (n : ℕ) (kept : List (Option (List ℕ))) (pages : List X) (m : ℕ) (body : List ℕ) (p : X) → IsBody m body p →
      HoldBodies IsBody n kept pages → n + length kept ≡ m → HoldBodies IsBody n (kept ++ Some body ∷ []) (pages ++ p ∷ [])
  bodies-push n [] [] m body p is h at = (subst (λ k. IsBody k body p) (let k : m ≡ n = omega (arith, at) in k) is, tt)
  bodies-push n [] (q ∷ pages) m body p is h at = absurd h
  bodies-push n (None ∷ kept) pages m body p is h at = bodies-push (n + 1) kept pages m body p is h (omega (arith, at))
  bodies-push n (Some b ∷ kept) [] m body p is h at = absurd h
  bodies-push n (Some b ∷ kept) (q ∷ pages) m body p is h at = (h.0, bodies-push (n + 1) kept pages m body p is h.1 (omega (arith, at)))

  bodies-void : (n : ℕ) (kept : List (Option (List ℕ))) (pages : List X) → HoldBodies IsBody n kept pages → HoldBodies IsBody n (kept ++ None ∷ []) (pages ++ [])
  bodies-void n [] [] h = tt
  bodies-void n [] (q ∷ pages) h = absurd h
  bodies-void n (None ∷ kept) pages h = bodies-void (n + 1) kept pages h
  bodies-void n (Some b ∷ kept) [] h = absurd h
  bodies-void n (Some b ∷ kept) (q ∷ pages) h = (h.0, bodies-void (n + 1) kept pages h.1)

  -- pages that are all void have any numbers
  bodies-anew : (n m : ℕ) (kept : List (Option (List ℕ))) (pages : List X) → list_any is_some kept ≡ false → HoldBodies IsBody n kept pages → HoldBodies IsBody m kept pages
  bodies-anew n m [] [] e h = tt
  bodies-anew n m [] (p ∷ pages) e h = absurd h
  bodies-anew n m (None ∷ kept) pages e h = bodies-anew (n + 1) (m + 1) kept pages e h
  bodies-anew n m (Some b ∷ kept) pages e h = absurd (true≢false e)

  -- the same bodies have other numbers only where there are none
  pub renumbered-bodies : (r : Shape) (at_least : ℕ) (s : RingState) (pages : List X) → HoldBodies IsBody (oldest s) s.kept pages →
      HoldBodies IsBody (oldest (renumbered r at_least s)) (renumbered r at_least s).kept pages
  renumbered-bodies r at_least s pages h = by_any (list_any is_some s.kept) refl
    where
      by_any : (b : Bool) → list_any is_some s.kept ≡ b → HoldBodies IsBody (oldest (cond b s (record s { next = least_alike (room r) s.next (at_least + length s.kept) })))
          (cond b s (record s { next = least_alike (room r) s.next (at_least + length s.kept) })).kept pages
      by_any true e = h
      by_any false e = bodies-anew (oldest s) _ s.kept pages e h

  -- where a body that holds something counts
  module _ (count_of : List ℕ → ℕ) (some : (n : ℕ) (body : List ℕ) (p : X) → IsBody n body p → 0 < count_of body) where
    abbrev counts_of : List (Option (List ℕ)) → List ℕ
    counts_of kept = map (page_count count_of) kept

    -- a body, and what it holds
    pub record IsHeld (n : ℕ) (kept : List (Option (List ℕ))) (pages : List X) (i : ℕ) (body : List ℕ) : Type 0 where
      pub holds : X
      pub is : slice_get pages (full_pages (take i (map (page_count count_of) kept))) ≡ Some holds
      pub good : IsBody (n + i) body holds

    pub bodies-at : (n : ℕ) (kept : List (Option (List ℕ))) (pages : List X) (i : ℕ) (body : List ℕ) → HoldBodies IsBody n kept pages → get_or kept i None ≡ Some body → IsHeld n kept pages i body
    bodies-at n [] pages i body h e = absurd (none-some body e)
    bodies-at n (None ∷ kept) pages zero body h e = absurd (none-some body e)
    bodies-at n (None ∷ kept) pages (suc i) body h e =
        let r = bodies-at (n + 1) kept pages i body h e in
        record {
          holds = r.holds;
          is = ap (slice_get pages) (full-none (take i (counts_of kept))) ∙ r.is;
          good = subst (λ k. IsBody k body r.holds) (let k : n + 1 + i ≡ n + suc i = omega arith in k) r.good;
        }
    bodies-at n (Some b ∷ kept) [] i body h e = absurd h
    bodies-at n (Some b ∷ kept) (p ∷ pages) zero body h e = record {
      holds = p;
      is = refl;
      good = subst (λ (x : List ℕ). IsBody (n + 0) x p) (same_Some b body e) (subst (λ k. IsBody k b p) (let k : n ≡ n + 0 = omega arith in k) h.0);
    }
    bodies-at n (Some b ∷ kept) (p ∷ pages) (suc i) body h e =
        let r = bodies-at (n + 1) kept pages i body h.1 e in
        record {
          holds = r.holds;
          is = ap (slice_get (p ∷ pages)) (full-some (count_of b) (take i (counts_of kept)) (some n b p h.0)) ∙ r.is;
          good = subst (λ k. IsBody k body r.holds) (let k : n + 1 + i ≡ n + suc i = omega arith in k) r.good;
        }

    -- each committed page holds some record
    pub holds-some : (s : RingState) (pages : List X) → HoldBodies IsBody (oldest s) s.kept pages → HoldsSome count_of s
    holds-some s pages h i lt = by_page (get_or s.kept i None) refl
      where
        by_page : (x : Option (List ℕ)) → get_or s.kept i None ≡ x → IfSome x (λ body. 0 < count_of body)
        by_page None e = tt
        by_page (Some body) e = let held = bodies-at (oldest s) s.kept pages i body h e in some (oldest s + i) body held.holds held.good

    -- each begins with its number
    pub bodies-numbered : ((n : ℕ) (body : List ℕ) (p : X) → IsBody n body p → n < 4294967296 → number_of body ≡ n) →
        (s : RingState) (pages : List X) → HoldBodies IsBody (oldest s) s.kept pages → count s ≤ s.next → s.next ≤ 4294967296 → IsNumbered s
    bodies-numbered number s pages h known small i lt = by_page (get_or s.kept i None) refl
      where
        by_page : (x : Option (List ℕ)) → get_or s.kept i None ≡ x → IfSome x (λ body. number_of body ≡ oldest s + i)
        by_page None e = tt
        by_page (Some body) e = let held = bodies-at (oldest s) s.kept pages i body h e in number (oldest s + i) body held.holds held.good (omega (arith, lt, known, small))

    -- the oldest pages go
    bodies-drop : (n k : ℕ) (kept : List (Option (List ℕ))) (pages : List X) → HoldBodies IsBody n kept pages → HoldBodies IsBody (n + k) (drop k kept) (drop (full_pages (take k (counts_of kept))) pages)
    bodies-drop n zero kept pages h =
        let none : full_pages (take 0 (counts_of kept)) ≡ 0 = ap full_pages (take_none (counts_of kept)) in
        subst (λ (ks : List (Option (List ℕ))). HoldBodies IsBody (n + 0) ks (drop (full_pages (take 0 (counts_of kept))) pages)) (sym (drop_none kept))
        (subst (λ (ps : List X). HoldBodies IsBody (n + 0) kept ps) (sym (ap (λ g. drop g pages) none ∙ drop_none pages))
        (subst (λ m. HoldBodies IsBody m kept pages) (let e : n ≡ n + 0 = omega arith in e) h))
    bodies-drop n (suc k) [] [] h = tt
    bodies-drop n (suc k) [] (p ∷ pages) h = absurd h
    bodies-drop n (suc k) (None ∷ kept) pages h =
        subst (λ g. HoldBodies IsBody (n + suc k) (drop k kept) (drop g pages)) (sym (full-none (take k (counts_of kept))))
        (subst (λ m. HoldBodies IsBody m (drop k kept) (drop (full_pages (take k (counts_of kept))) pages)) (let e : n + 1 + k ≡ n + suc k = omega arith in e) (bodies-drop (n + 1) k kept pages h))
    bodies-drop n (suc k) (Some b ∷ kept) [] h = absurd h
    bodies-drop n (suc k) (Some b ∷ kept) (p ∷ pages) h =
        subst (λ g. HoldBodies IsBody (n + suc k) (drop k kept) (drop g (p ∷ pages))) (sym (full-some (count_of b) (take k (counts_of kept)) (some n b p h.0)))
        (subst (λ m. HoldBodies IsBody m (drop k kept) (drop (full_pages (take k (counts_of kept))) pages)) (let e : n + 1 + k ≡ n + suc k = omega arith in e) (bodies-drop (n + 1) k kept pages h.1))

    -- what the pages that go hold is what the model gives up
    module _ (r : Shape) (s : RingState) (x : Option (List ℕ)) (shape : IsShape r) (known : count s ≤ s.next) (added : List X) (pages : List X)
        (push : (n : ℕ) (kept : List (Option (List ℕ))) (ps : List X) → HoldBodies IsBody n kept ps → n + length kept ≡ s.next → HoldBodies IsBody n (kept ++ x ∷ []) (ps ++ added)) (h : HoldBodies IsBody (oldest s) s.kept pages) where
      abbrev c : ℕ
      c = page_count count_of x

      counts-len : length (counts_of s.kept) ≡ count s
      counts-len = length-map s.kept (page_count count_of)

      full-same : model.is_full (model_shape r) (model.extended (page_count count_of x) (ring_counts count_of s)) ≡ is_due r (appended s x)
      full-same = ap (is_due_at r (s.next + 1)) (omega (arith, counts-len, length-append (counts_of s.kept) (c ∷ []), len r s x))

      by_due : (b : Bool) → is_due r (appended s x) ≡ b →
          HoldBodies IsBody (oldest (cond b (went r s x) (more r s x))) (cond b (went r s x) (more r s x)).kept (drop (full_pages (cond b (take r.per_block (counts_of s.kept ++ c ∷ [])) [])) pages ++ added)
      by_due true e =
          let k = r.per_block in
          let all = len r s x in
          let fits = enough r s x shape e in
          let number : oldest s + r.per_block ≡ oldest (went r s x) = omega (arith, length-drop r.per_block (s.kept ++ x ∷ []), all, fits, known) in
          let front : full_pages (take r.per_block (counts_of s.kept ++ c ∷ [])) ≡ full_pages (take r.per_block (counts_of s.kept)) = full-pushed (counts_of s.kept) (c ∷ []) k (omega (arith, counts-len, fits)) in
          let rest = push (oldest s + k) (drop k s.kept) (drop (full_pages (take k (counts_of s.kept))) pages) (bodies-drop (oldest s) k s.kept pages h) (omega (arith, length-drop r.per_block s.kept, fits, known)) in
          subst (λ n. HoldBodies IsBody n (drop r.per_block (s.kept ++ x ∷ [])) (drop (full_pages (take r.per_block (counts_of s.kept ++ c ∷ []))) pages ++ added)) number
          (subst (λ (ks : List (Option (List ℕ))). HoldBodies IsBody (oldest s + r.per_block) ks (drop (full_pages (take r.per_block (counts_of s.kept ++ c ∷ []))) pages ++ added)) (sym (drop-append-le k s.kept (x ∷ []) fits))
          (subst (λ g. HoldBodies IsBody (oldest s + r.per_block) (drop r.per_block s.kept ++ x ∷ []) (drop g pages ++ added)) (sym front) rest))
      by_due false e =
          let all = len r s x in
          let number : oldest s ≡ oldest (more r s x) = omega (arith, all, known) in
          subst (λ n. HoldBodies IsBody n (s.kept ++ x ∷ []) (drop (full_pages []) pages ++ added)) number
          (subst (λ (ps : List X). HoldBodies IsBody (oldest s) (s.kept ++ x ∷ []) (ps ++ added)) (sym (drop_none pages)) (push (oldest s) s.kept pages h (omega (arith, known))))

      kept-bodies : HoldBodies IsBody (oldest (trimmed r (appended s x))) (trimmed r (appended s x)).kept (drop (full_pages (model.given_up (model_shape r) (page_count count_of x) (ring_counts count_of s))) pages ++ added)
      kept-bodies =
          subst (λ (b : Bool). HoldBodies IsBody (oldest (trimmed r (appended s x))) (trimmed r (appended s x)).kept (drop (full_pages (cond b (take r.per_block (counts_of s.kept ++ c ∷ [])) [])) pages ++ added)) (sym full-same)
          (by_due (is_due r (appended s x)) refl)

    -- .. where it is a page that holds this, and a void one
    pub sealed-bodies : (r : Shape) (s : RingState) → IsShape r → count s ≤ s.next → (pages : List X) (body : List ℕ) (p : X) → IsBody s.next body p → HoldBodies IsBody (oldest s) s.kept pages →
        HoldBodies IsBody (oldest (trimmed r (appended s (Some body)))) (trimmed r (appended s (Some body))).kept (drop (full_pages (model.given_up (model_shape r) (count_of body) (ring_counts count_of s))) pages ++ p ∷ [])
    sealed-bodies r s shape known pages body p is h = kept-bodies r s (Some body) shape known (p ∷ []) pages (λ n kept ps held at. bodies-push n kept ps s.next body p is held at) h

    pub voided-bodies : (r : Shape) (s : RingState) → IsShape r → count s ≤ s.next → (pages : List X) → HoldBodies IsBody (oldest s) s.kept pages →
        HoldBodies IsBody (oldest (trimmed r (appended s None))) (trimmed r (appended s None)).kept (drop (full_pages (model.given_up (model_shape r) 0 (ring_counts count_of s))) pages ++ [])
    voided-bodies r s shape known pages h = kept-bodies r s None shape known [] pages (λ n kept ps held at. bodies-void n kept ps held) h
