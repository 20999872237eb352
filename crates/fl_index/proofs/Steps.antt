-- What the steps of a ring make of the index ring, as a list of bodies and as a table.
use Rattle.std.proofs.Common.{◌≡◌, ℕ, suc, ◌+◌, ◌-◌, ◌*◌, ◌%◌, ◌^◌, ◌<◌, ◌≤◌, ◌⊎◌, inl, inr, Bool, true, false, cond, ◌==◌, Option, Some, None, List, [], ◌∷◌, ◌++◌, length, take, drop, get_or, refl, sym, ◌∙◌, ap, subst, arith, length-append, length-drop, not-suc-le-zero}
use Rattle.std.proofs.lemmas.Bool.{ltb-true, cases_lt}
use Rattle.std.proofs.lemmas.List.{get_or-drop, drop-append-le, get_or_append_left}
use Rattle.std.proofs.Math.Nat.{mul-le-mul_right}
use Rattle.std.specs.List.{slice_get, AllByRecursion}
use Rattle.fl_model.specs.Record.{Plan, entries_per_page}
use Rattle.fl_model.specs.Ring as model
use Rattle.fl_model.specs.Table.{Table, IndexRing, shape_of, full_pages}
use Rattle.fl_model.specs.Layout.{IndexPage, committed}
use Rattle.fl_model.specs.Agrees.{TellPages}
use Rattle.fl_model.specs.Image.{HoldsEntries}
use Rattle.fl_model.proofs.Lists.{each-push, each-drop, slice_get-drop, slice_get-left, slice_get-short, drop_none, and_right}
use Rattle.fl_model.proofs.RingFactsStay.{ring-sealed}
use Rattle.fl_ring.specs.Counts.{page_count, ring_counts}
use Rattle.fl_ring.specs.Ring.{RingState, count, is_due, is_due_at, appended, trimmed}
use Rattle.fl_ring.proofs.Counts.{counts_sealed, counts_voided}
use Rattle.fl_index.specs.Standing.{HasIndex}
use Rattle.fl_model.proofs.FullPages.{full-append, full-pushed, full-dropped, full-split}
use Rattle.fl_index.proofs.Lists.{firsts_of, firsts-drop, end_after, end-drop, Ascend, ascend-drop, get_or-end, as-many-drop}
use Rattle.fl_index.proofs.State.{shape_in, full_count, IsStateOf, holds-moved}

-- each body lists what the table's index does
abbrev pub Bodies : Plan → Table → model.Ring → RingState → Type 0
Bodies plan table ring s =
    (i : ℕ) (body : List ℕ) → i < count s → get_or s.kept i None ≡ Some body → HoldsEntries plan table ring i (entries_per_page plan) (committed body)

-- the table with this index ring and these pages of it, where none waits
abbrev pub with_index : Table → model.Ring → List IndexPage → Table
with_index table ring pages = record table { index = Some ring; index_pages = pages; waiting = [] }

-- a ring that gives up a block keeps more pages than that
long : (shape : model.Shape) (ring : model.Ring) (c : ℕ) → model.IsShape shape → model.is_full shape (model.extended c ring) ≡ true → shape.pages ≤ length ring.counts
long shape ring c s h =
    let lt = ltb-true ((shape.blocks - 1) * shape.pages - 1) (length (ring.counts ++ c ∷ [])) (and_right ((ring.next + 1) % shape.pages == shape.pages - 1) _ h) in
    let two : 2 * shape.pages ≤ (shape.blocks - 1) * shape.pages = mul-le-mul_right shape.pages (let e : 2 ≤ shape.blocks - 1 = omega (arith, s.blocks) in e) in
    omega (arith, lt, two, s.pages, length-append ring.counts (c ∷ []))

module _ (first : ℕ) (plan : Plan) (shape : model.IsShape (shape_of plan IndexRing)) (table : Table) (s : RingState) (is : IsStateOf plan table s) (clean : is.ring.dirty ≡ false)
    (x : Option (List ℕ)) (c : ℕ) (c_is : page_count (full_count plan) x ≡ c) (more : List IndexPage)
    (sizes : (c ≡ 0) ⊎ (c ≡ entries_per_page plan)) (as_many : length more ≡ full_pages (c ∷ [])) (left : is.ring.next + 1 < 2 ^ 32)
    (rises : Ascend (entries_per_page plan) (firsts_of (table.index_pages ++ more))) (ends : end_after (entries_per_page plan) (firsts_of (table.index_pages ++ more)) ≤ table.rows.next)
    (fit : AllByRecursion (λ (p : IndexPage). length p.entries ≡ entries_per_page plan) (table.index_pages ++ more))
    (tell : (k : ℕ) (p : IndexPage) → slice_get (table.index_pages ++ more) k ≡ Some p → TellPages plan table p.first p.entries)
    (page_ok : (body : List ℕ) → x ≡ Some body → HoldsEntries plan (with_index table (model.extended c is.ring) (table.index_pages ++ more)) (model.extended c is.ring) (length is.ring.counts) (entries_per_page plan) (committed body)) where
  abbrev ring : model.Ring
  ring = is.ring

  abbrev grown : model.Ring
  grown = model.extended c is.ring

  len : length (ring.counts ++ c ∷ []) ≡ length ring.counts + 1
  len = length-append ring.counts (c ∷ [])

  state_len : count s ≡ length ring.counts
  state_len = sym (ap (λ (r : model.Ring). length r.counts) is.counts ∙ counted s.kept)
    where
      counted : (kept : List (Option (List ℕ))) → length (ring_counts (full_count plan) (record s { kept = kept })).counts ≡ length kept
      counted [] = refl
      counted (y ∷ kept) = ap suc (counted kept)

  state_next : s.next ≡ ring.next
  state_next = sym (ap (λ (r : model.Ring). r.next) is.counts)

  grown_len : length (s.kept ++ x ∷ []) ≡ length (ring.counts ++ c ∷ [])
  grown_len = omega (arith, length-append s.kept (x ∷ []), state_len, len)

  pushed : Bodies plan (with_index table grown (table.index_pages ++ more)) grown (appended s x)
  pushed i body lt at = by_place (cases_lt i (count s))
    where
      by_place : (i < count s) ⊎ (count s ≤ i) → HoldsEntries plan (with_index table grown (table.index_pages ++ more)) grown i (entries_per_page plan) (committed body)
      by_place (inl less) =
          holds-moved plan table (with_index table grown (table.index_pages ++ more)) ring grown i i (entries_per_page plan) (committed body)
          (omega (arith, len, is.facts.is_ring.not_negative))
          (λ f e. ap (slice_get (table.index_pages ++ more)) (full-pushed ring.counts (c ∷ []) i (omega (arith, less, state_len)))
          ∙ (slice_get-left table.index_pages more (full_pages (take i ring.counts)) (slice_get-short table.index_pages (full_pages (take i ring.counts)) f e) ∙ e))
          (is.bodies i body less (sym (get_or_append_left s.kept (x ∷ []) None i less) ∙ at))
      by_place (inr last) =
          let e : i ≡ count s = omega (arith, lt, last, length-append s.kept (x ∷ [])) in
          let here : x ≡ Some body = sym (get_or-end s.kept x None) ∙ (ap (λ n. get_or (s.kept ++ x ∷ []) n None) (sym e) ∙ at) in
          subst (λ n. HoldsEntries plan (with_index table grown (table.index_pages ++ more)) grown n (entries_per_page plan) (committed body)) (sym (e ∙ state_len)) (page_ok body here)

  same_test : is_due (shape_in first plan) (appended s x) ≡ model.is_full (shape_of plan IndexRing) grown
  same_test = ap (λ n. is_due_at (shape_in first plan) (n + 1) (length (s.kept ++ x ∷ []))) state_next ∙ ap (λ n. is_due_at (shape_in first plan) (ring.next + 1) n) grown_len

  after_ring : model.IsRing (shape_of plan IndexRing) (model.sealed (shape_of plan IndexRing) c ring)
  after_ring = ring-sealed (shape_of plan IndexRing) c ring shape is.facts.is_ring clean

  abbrev last_ring : model.Ring
  last_ring = model.sealed (shape_of plan IndexRing) c is.ring

  abbrev last_table : Table
  last_table = with_index table last_ring (drop (full_pages (model.given_up (shape_of plan IndexRing) c is.ring)) table.index_pages ++ more)

  next_after : (b : Bool) → (cond b (record grown { counts = drop plan.geometry.block grown.counts; dirty = true }) grown).next ≡ ring.next + 1
  next_after true = refl
  next_after false = refl

  untorn : (b : Bool) → (cond b (record grown { counts = drop plan.geometry.block grown.counts; dirty = true }) grown).torn ≡ false
  untorn true = refl
  untorn false = refl

  counts_each : AllByRecursion (λ count. (count ≡ 0) ⊎ (count ≡ entries_per_page plan)) (ring.counts ++ c ∷ [])
  counts_each = each-push (λ count. (count ≡ 0) ⊎ (count ≡ entries_per_page plan)) ring.counts c is.facts.counts sizes

  many : length (table.index_pages ++ more) ≡ full_pages (ring.counts ++ c ∷ [])
  many = omega (arith, length-append table.index_pages more, is.facts.index_each, as_many, full-append ring.counts (c ∷ []))

  -- the first data pages where a block is given up
  gone : model.is_full (shape_of plan IndexRing) grown ≡ true → drop (full_pages (take plan.geometry.block (ring.counts ++ c ∷ []))) table.index_pages ++ more ≡ drop (full_pages (take plan.geometry.block (ring.counts ++ c ∷ []))) (table.index_pages ++ more)
  gone e =
      let l = long (shape_of plan IndexRing) ring c shape e in
      let k = full-pushed ring.counts (c ∷ []) plan.geometry.block l in
      sym (drop-append-le (full_pages (take plan.geometry.block (ring.counts ++ c ∷ []))) table.index_pages more (omega (arith, k, is.facts.index_each, full-split plan.geometry.block ring.counts)))

  counts_are : last_ring ≡ ring_counts (full_count plan) (trimmed (shape_in first plan) (appended s x))
  counts_are = by_page x c_is
    where
      here : (k : ℕ) → k ≡ c → model.sealed (shape_of plan IndexRing) c is.ring ≡ model.sealed (shape_of plan IndexRing) k (ring_counts (full_count plan) s)
      here k e = ap (λ (n : ℕ). model.sealed (shape_of plan IndexRing) n is.ring) (sym e) ∙ ap (model.sealed (shape_of plan IndexRing) k) is.counts

      by_page : (x : Option (List ℕ)) → page_count (full_count plan) x ≡ c → model.sealed (shape_of plan IndexRing) c is.ring ≡ ring_counts (full_count plan) (trimmed (shape_in first plan) (appended s x))
      by_page None e = here 0 e ∙ sym (counts_voided (full_count plan) (shape_in first plan) s)
      by_page (Some body) e = here (entries_per_page plan) e ∙ sym (counts_sealed (full_count plan) (shape_in first plan) s body)

  abbrev After : Bool → Type 0
  After b = HasIndex plan (with_index table (cond b (record grown { counts = drop plan.geometry.block grown.counts; dirty = true }) grown) (drop (full_pages (cond b (take plan.geometry.block grown.counts) [])) table.index_pages ++ more))
      (cond b (record grown { counts = drop plan.geometry.block grown.counts; dirty = true }) grown)

  facts_after : (b : Bool) → model.is_full (shape_of plan IndexRing) grown ≡ b →
      model.IsRing (shape_of plan IndexRing) (cond b (record grown { counts = drop plan.geometry.block grown.counts; dirty = true }) grown) → After b
  facts_after true e r =
      let P = plan.geometry.block in
      let k = full_pages (take plan.geometry.block (ring.counts ++ c ∷ [])) in
      record {
        ring_is = refl;
        is_ring = r;
        counts = each-drop (λ count. (count ≡ 0) ⊎ (count ≡ entries_per_page plan)) P (ring.counts ++ c ∷ []) counts_each;
        index_each = ap length (gone e) ∙ as-many-drop P (ring.counts ++ c ∷ []) (table.index_pages ++ more) many;
        firsts = subst (λ (ps : List IndexPage). Ascend (entries_per_page plan) (firsts_of ps)) (sym (gone e)) (subst (Ascend (entries_per_page plan)) (sym (firsts-drop k (table.index_pages ++ more))) (ascend-drop (entries_per_page plan) k (firsts_of (table.index_pages ++ more)) rises));
        waiting = omega arith;
        listed =
            let g = ap (λ (ps : List IndexPage). end_after (entries_per_page plan) (firsts_of ps)) (gone e) in
            let d = ap (end_after (entries_per_page plan)) (firsts-drop k (table.index_pages ++ more)) in
            omega (arith, g, d, end-drop (entries_per_page plan) k (firsts_of (table.index_pages ++ more)), ends);
        index_fit = subst (AllByRecursion (λ (p : IndexPage). length p.entries ≡ entries_per_page plan)) (sym (gone e)) (each-drop (λ (p : IndexPage). length p.entries ≡ entries_per_page plan) k (table.index_pages ++ more) fit);
        tell = λ n p at. tell (k + n) p (sym (slice_get-drop k (table.index_pages ++ more) n) ∙ (ap (λ (fs : List IndexPage). slice_get fs n) (sym (gone e)) ∙ at));
        wait = λ j n lt at. absurd (not-suc-le-zero lt);
        counted = is.facts.counted;
        number = omega (arith, left);
        rows_number = is.facts.rows_number;
      }
  facts_after false e r = record {
    ring_is = refl;
    is_ring = r;
    counts = counts_each;
    index_each = ap (λ (fs : List IndexPage). length (fs ++ more)) (drop_none table.index_pages) ∙ many;
    firsts = subst (λ (fs : List IndexPage). Ascend (entries_per_page plan) (firsts_of (fs ++ more))) (sym (drop_none table.index_pages)) rises;
    waiting = omega arith;
    listed = let g = ap (λ (fs : List IndexPage). end_after (entries_per_page plan) (firsts_of (fs ++ more))) (drop_none table.index_pages) in omega (arith, g, ends);
    index_fit = subst (λ (fs : List IndexPage). AllByRecursion (λ (p : IndexPage). length p.entries ≡ entries_per_page plan) (fs ++ more)) (sym (drop_none table.index_pages)) fit;
    tell = λ n p at. tell n p (ap (λ (fs : List IndexPage). slice_get (fs ++ more) n) (sym (drop_none table.index_pages)) ∙ at);
    wait = λ j n lt at. absurd (not-suc-le-zero lt);
    counted = is.facts.counted;
    number = omega (arith, left);
    rows_number = is.facts.rows_number;
  }

  bodies_after : (b : Bool) → model.is_full (shape_of plan IndexRing) grown ≡ b →
      Bodies plan (with_index table (cond b (record grown { counts = drop plan.geometry.block grown.counts; dirty = true }) grown) (drop (full_pages (cond b (take plan.geometry.block grown.counts) [])) table.index_pages ++ more))
      (cond b (record grown { counts = drop plan.geometry.block grown.counts; dirty = true }) grown)
      (cond b (record (appended s x) { kept = drop plan.geometry.block (s.kept ++ x ∷ []); dirty = true }) (appended s x))
  bodies_after true e i body lt at =
      let P = plan.geometry.block in
      let k = full_pages (take plan.geometry.block (ring.counts ++ c ∷ [])) in
      let l = long (shape_of plan IndexRing) ring c shape e in
      holds-moved plan (with_index table grown (table.index_pages ++ more)) (with_index table (record grown { counts = drop plan.geometry.block grown.counts; dirty = true }) (drop k table.index_pages ++ more))
      grown (record grown { counts = drop plan.geometry.block grown.counts; dirty = true }) (P + i) i (entries_per_page plan) (committed body)
      (omega (arith, len, length-drop P (ring.counts ++ c ∷ []), is.facts.is_ring.not_negative, l))
      (λ f g. ap (λ (fs : List IndexPage). slice_get fs (full_pages (take i (drop P (ring.counts ++ c ∷ []))))) (gone e)
      ∙ (slice_get-drop k (table.index_pages ++ more) (full_pages (take i (drop P (ring.counts ++ c ∷ []))))
      ∙ (ap (slice_get (table.index_pages ++ more)) (sym (full-dropped P i (ring.counts ++ c ∷ []))) ∙ g)))
      (pushed (P + i) body (omega (arith, lt, length-drop P (s.kept ++ x ∷ []))) (sym (get_or-drop P (s.kept ++ x ∷ []) i None) ∙ at))
  bodies_after false e i body lt at =
      subst (λ (fs : List IndexPage). HoldsEntries plan (with_index table grown (fs ++ more)) grown i (entries_per_page plan) (committed body)) (sym (drop_none table.index_pages)) (pushed i body lt at)

  -- one page more is kept, and the oldest block goes where it has to
  pub state-kept : IsStateOf plan last_table (trimmed (shape_in first plan) (appended s x))
  state-kept = record {
    ring = last_ring;
    facts = facts_after (model.is_full (shape_of plan IndexRing) grown) refl after_ring;
    counts = counts_are;
    bodies = subst (λ b. Bodies plan last_table last_ring (cond b (record (appended s x) { kept = drop plan.geometry.block (s.kept ++ x ∷ []); dirty = true }) (appended s x))) (sym same_test)
        (bodies_after (model.is_full (shape_of plan IndexRing) grown) refl);
  }

  -- where the pages of the last ring stood before the trim
  pub record Shifted (last : model.Ring) (firsts : List IndexPage) : Type 0 where
    pub by : ℕ
    pub few : by ≤ length (ring.counts ++ c ∷ [])
    pub counts : (i : ℕ) → slice_get last.counts i ≡ slice_get (ring.counts ++ c ∷ []) (by + i)
    pub old : (i : ℕ) → model.oldest last + i ≡ model.oldest ring + (by + i)
    pub listed : (i : ℕ) → slice_get firsts (full_pages (take i last.counts)) ≡ slice_get (table.index_pages ++ more) (full_pages (take (by + i) (ring.counts ++ c ∷ [])))

  shifts : (b : Bool) → model.is_full (shape_of plan IndexRing) grown ≡ b →
      Shifted (cond b (record grown { counts = drop plan.geometry.block grown.counts; dirty = true }) grown) (drop (full_pages (cond b (take plan.geometry.block grown.counts) [])) table.index_pages ++ more)
  shifts true e =
      let P = plan.geometry.block in
      let k = full_pages (take plan.geometry.block (ring.counts ++ c ∷ [])) in
      let l = long (shape_of plan IndexRing) ring c shape e in
      record {
        by = P;
        few = omega (arith, l, len);
        counts = λ i. slice_get-drop P (ring.counts ++ c ∷ []) i;
        old = λ i. omega (arith, len, length-drop P (ring.counts ++ c ∷ []), is.facts.is_ring.not_negative, l);
        listed = λ i. ap (λ (fs : List IndexPage). slice_get fs (full_pages (take i (drop P (ring.counts ++ c ∷ []))))) (gone e)
            ∙ (slice_get-drop k (table.index_pages ++ more) (full_pages (take i (drop P (ring.counts ++ c ∷ []))))
            ∙ ap (slice_get (table.index_pages ++ more)) (sym (full-dropped P i (ring.counts ++ c ∷ []))));
      }
  shifts false e = record {
    by = 0;
    few = omega arith;
    counts = λ i. ap (slice_get (ring.counts ++ c ∷ [])) (let k : i ≡ 0 + i = omega arith in k);
    old = λ i. omega (arith, len, is.facts.is_ring.not_negative);
    listed = λ i. ap (λ (fs : List IndexPage). slice_get (fs ++ more) (full_pages (take i (ring.counts ++ c ∷ [])))) (drop_none table.index_pages)
        ∙ ap (λ n. slice_get (table.index_pages ++ more) (full_pages (take n (ring.counts ++ c ∷ [])))) (let k : i ≡ 0 + i = omega arith in k);
  }

  pub last-shifted : Shifted last_ring (drop (full_pages (model.given_up (shape_of plan IndexRing) c is.ring)) table.index_pages ++ more)
  last-shifted = shifts (model.is_full (shape_of plan IndexRing) grown) refl
