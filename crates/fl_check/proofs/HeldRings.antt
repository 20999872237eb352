-- The pages of a ring that stands for a state are the image of a ring of the model, where each committed page holds something.
use Rattle.std.proofs.Common.{◌≡◌, ℕ, ◌+◌, ◌-◌, ◌*◌, ◌%◌, ◌^◌, ◌≤◌, ◌<◌, ◌++◌, inl, inr, true, false, nat_lt, Option, Some, None, IfSome, option_map, List, length, map, filter, get_or, slice_get, refl, sym, ◌∙◌, ap, subst, arith}
use Rattle.std.specs.List.{AllByRecursion, list_any}
use Rattle.std.proofs.Math.ListN.{get_or-eq_default}
use Rattle.std.proofs.Math.Nat.{mod-lt, mul-le-mul_right}
use Rattle.std.proofs.lemmas.Bool.{cases_lt, lt-ltb, cond-false}
use Rattle.std.proofs.lemmas.List.{length-map}
use Rattle.std.proofs.lemmas.Option.{slice_get_within, slice_get-map, slice_get-get_or, none-some, same_Some}
use Rattle.fl_flash.specs.Flash.{FlashState, page_at}
use Rattle.fl_mark.specs.Mark.{state_of_page}
use Rattle.fl_model.specs.Image.{HoldsPage}
use Rattle.fl_model.specs.Layout.{committed}
use Rattle.fl_model.specs.Mount.{least_alike}
use Rattle.fl_model.specs.Mount as mount
use Rattle.fl_model.specs.Ring as model
use Rattle.fl_ring.specs.Counts.{page_count, ring_counts, model_shape}
use Rattle.fl_ring.specs.Head.{one}
use Rattle.fl_ring.specs.Newest.{commits, page_back}
use Rattle.fl_ring.specs.Ring.{Shape, RingState, IsShape, HoldsKept, count, oldest, place, room, committed_end}
use Rattle.fl_ring.proofs.Counts.{counts_ring, counts_renumbered}
use Rattle.fl_ring.proofs.Found.{committed_state}
use Rattle.fl_ring.proofs.Images.{image_from_on}
use Rattle.fl_ring.proofs.Heads.{one-is}
use Rattle.fl_rules.specs.Marks.{kept_page}
use Rattle.fl_check.specs.SoundImages.{RingImage}
use Rattle.fl_check.specs.StandingRings.{HaveSize, StandsRuled}
use Rattle.fl_rules.specs.declared.numbering.Numbering.{Numbering}
use Rattle.fl_check.proofs.Collected.{Held, Collected, all-map, collect}
use Rattle.fl_check.proofs.RingReads.{Follows}

-- the page of each number has the size of the ring's
pub place-size : (page : ℕ → List ℕ) (r : Shape) → IsShape r → HaveSize page r → (k : ℕ) → length (page (place r k)) ≡ r.size
place-size page r shape size k = size (place r k) (omega arith) (let low : k % room r < room r = mod-lt k some_room in omega (arith, low))
  where
    some_room : 0 < room r
    some_room =
        let least : 3 * r.per_block ≤ room r = mul-le-mul_right r.per_block shape.blocks in
        omega (arith, least, shape.per_block)

module _ (Form : ℕ → List ℕ → Type 0) (f : FlashState) (r : Shape) (at_least : ℕ) (n : Numbering) (shape : IsShape r) (size : HaveSize (page_at f) r) (st : StandsRuled Form f r at_least n) where
  abbrev s : RingState
  s = st.s

  abbrev page_of : ℕ → List ℕ
  page_of i = page_at f (place r (oldest s + i))

  sizes : (k : ℕ) → length (page_at f (place r k)) ≡ r.size
  sizes = place-size (page_at f) r shape size

  pub within : (i : ℕ) (body : List ℕ) → get_or s.kept i None ≡ Some body → i < count s
  within i body is = elim (cases_lt i (count s)) [
    | inl lt ↦ lt
    | inr ge ↦ absurd (none-some body (sym (get_or-eq_default s.kept None ge) ∙ is))
  ]

  pub bytes_is : (i : ℕ) (body : List ℕ) → i < count s → get_or s.kept i None ≡ Some body → page_of i ≡ body ++ committed_end
  bytes_is i body lt is = (subst (λ (x : Option (List ℕ)). HoldsKept r x (page_of i)) is (st.good.on.kept i lt)).0

  -- whether a kept page is committed
  pub void_is : (i : ℕ) → i < count s → get_or s.kept i None ≡ None → commits (state_of_page (page_of i)) ≡ false
  void_is i lt is = ap commits (subst (λ (x : Option (List ℕ)). HoldsKept r x (page_of i)) is (st.good.on.kept i lt))

  pub commits_is : (i : ℕ) (body : List ℕ) → i < count s → get_or s.kept i None ≡ Some body → commits (state_of_page (page_of i)) ≡ true
  commits_is i body lt is = ap (λ (l : List ℕ). commits (state_of_page l)) (bytes_is i body lt is) ∙ ap commits (committed_state body)

  low : (i : ℕ) → i < count s → oldest s + i < 2 ^ 32
  low i lt = omega (arith, lt, st.good.on.ring.not_negative, st.good.fits, st.renumbered_next, st.next)

  -- a committed page by its form
  module _ (count_of : List ℕ → ℕ) (Read : ℕ → List ℕ → List ℕ → Type 0)
      (reads : (number : ℕ) (page body : List ℕ) → number < 2 ^ 32 → length page ≡ r.size → page ≡ body ++ committed_end → Form number page → (0 < count_of body) × Read number page body) where
    abbrev pub ring : model.Ring
    ring = ring_counts count_of s

    pub read : (i : ℕ) (body : List ℕ) → i < count s → get_or s.kept i None ≡ Some body → (0 < count_of body) × Read (oldest s + i) (page_of i) body
    read i body lt is = reads (oldest s + i) (page_of i) body (low i lt) (sizes (oldest s + i)) (bytes_is i body lt is) (st.forms i body lt is)

    pub some : (i : ℕ) → i < count s → IfSome (get_or s.kept i None) (λ body. 0 < count_of body)
    some i lt = by_kept (get_or s.kept i None) refl
      where
        by_kept : (x : Option (List ℕ)) → get_or s.kept i None ≡ x → IfSome x (λ body. 0 < count_of body)
        by_kept None is = tt
        by_kept (Some body) is = (read i body lt is).0

    pub first_same : model.oldest ring ≡ oldest s
    first_same = ap (λ (k : ℕ). s.next - k) (length-map s.kept (page_count count_of))

    -- each count of the ring is so, where those of void pages and of committed ones are
    pub counts_are : (Counts : ℕ → Type 0) → Counts 0 → ((number : ℕ) (page body : List ℕ) → Read number page body → Counts (count_of body)) → AllByRecursion Counts ring.counts
    counts_are Counts none each = all-map (page_count count_of) Counts s.kept None (λ i lt. by_kept i lt (get_or s.kept i None) refl)
      where
        by_kept : (i : ℕ) → i < count s → (x : Option (List ℕ)) → get_or s.kept i None ≡ x → Counts (page_count count_of x)
        by_kept i lt None is = none
        by_kept i lt (Some body) is = each (oldest s + i) (page_of i) body (read i body lt is).1

    -- what a check reads of it
    pub follows : Follows (page_at f) r at_least ring n
    follows = record {
      reads = record { kept = kept_is; back = back; at = at; committed = committed; next = λ i c is some. sym st.next; least = inl (sym st.next) };
      next = sym st.next;
      known = omega (arith, many, st.good.on.ring.not_negative);
      small = omega (arith, st.good.fits, st.renumbered_next, st.next);
      left = let fits : s.next + one s.torn < 2 ^ 32 = omega (arith, st.good.fits, st.renumbered_next, st.next) in subst (λ (k : ℕ). s.next + k < 2 ^ 32) (one-is s.torn) fits;
      behind = behind;
    }
      where
        -- a ring without a committed page has the numbers that a mount gives it
        behind : list_any (nat_lt 0) ring.counts ≡ false → at_least + length ring.counts ≤ s.next
        behind void =
            let given : mount.renumbered (model_shape r) at_least ring ≡ record ring { next = least_alike (r.blocks * r.per_block) s.next (at_least + length ring.counts) } =
            cond-false (list_any (nat_lt 0) ring.counts) ring (record ring { next = least_alike (r.blocks * r.per_block) s.next (at_least + length ring.counts) }) void in
            let same : s.next ≡ least_alike (r.blocks * r.per_block) s.next (at_least + length ring.counts) =
            st.next ∙ sym st.renumbered_next ∙ ap (λ (g : model.Ring). g.next) (counts_renumbered count_of r at_least s some) ∙ ap (λ (g : model.Ring). g.next) given in
            omega (arith, same)

        many : length ring.counts ≡ count s
        many = length-map s.kept (page_count count_of)

        kept_is : n.marks.kept ≡ length ring.counts
        kept_is = sym st.kept ∙ sym many

        at : (i : ℕ) → i < length ring.counts → page_at f (kept_page r n.marks i) ≡ page_at f (place r (model.oldest ring + i))
        at i lt = ap (page_at f) (st.places i (omega (arith, lt, many))) ∙ ap (λ (k : ℕ). page_at f (place r (k + i))) (sym first_same)

        back : (k : ℕ) → 1 ≤ k → k ≤ length ring.counts → page_at f (page_back r n.marks.at k) ≡ page_at f (place r (ring.next - k))
        back k some few =
            ap (λ (j : ℕ). page_at f (page_back r n.marks.at j)) (let e : k ≡ n.marks.kept - (n.marks.kept - k) = omega (arith, few, kept_is) in e)
            ∙ at (n.marks.kept - k) (omega (arith, some, few, kept_is))
            ∙ ap (λ (j : ℕ). page_at f (place r j)) (let e : model.oldest ring + (n.marks.kept - k) ≡ ring.next - k = omega (arith, few, kept_is, many, st.good.on.ring.not_negative) in e)

        by_kept : (i c : ℕ) (x : Option (List ℕ)) → i < count s → get_or s.kept i None ≡ x → c ≡ page_count count_of x → commits (state_of_page (page_of i)) ≡ nat_lt 0 c
        by_kept i c None lt is same = void_is i lt is ∙ ap (nat_lt 0) (sym same)
        by_kept i c (Some body) lt is same = commits_is i body lt is ∙ sym (lt-ltb 0 c (omega (arith, same, (read i body lt is).0)))

        committed : (i c : ℕ) → slice_get ring.counts i ≡ Some c → commits (state_of_page (page_at f (kept_page r n.marks i))) ≡ nat_lt 0 c
        committed i c is =
            let lt : i < count s = omega (arith, slice_get_within ring.counts i c is, many) in
            let there = slice_get-map (page_count count_of) s.kept i ∙ ap (λ (o : Option (Option (List ℕ))). option_map (page_count count_of) o) (slice_get-get_or s.kept i None lt) in
            ap (λ (p : ℕ). commits (state_of_page (page_at f p))) (st.places i lt) ∙ by_kept i c (get_or s.kept i None) lt refl (same_Some _ _ (sym is ∙ there))

    pub held_as : (Holds : ℕ → ℕ → List ℕ → Type 0) → ((i : ℕ) (body : List ℕ) → get_or s.kept i None ≡ Some body → Read (oldest s + i) (page_of i) body → Holds i (count_of body) (page_of i)) → RingImage (page_at f) r ring Holds
    held_as Holds holds = record {
      is = counts_ring count_of r s st.good.on.ring;
      pages = image_from_on r (page_at f) s count_of sizes shape some Holds (λ i body is bytes. holds i body is (read i body (within i body is) is).1) st.good.on;
    }

  -- .. where a list of the model has what each page holds
  module _ (X : Type 0) (Fits : X → Type 0) (size_of : X → ℕ) (count_of : List ℕ → ℕ) (body_of : ℕ → X → List ℕ)
      (reads : (number : ℕ) (page body : List ℕ) → number < 2 ^ 32 → length page ≡ r.size → page ≡ body ++ committed_end → Form number page
      → (0 < count_of body) × Held X Fits (λ x. (page ≡ committed (body_of number x)) × (size_of x ≡ count_of body))) where
    abbrev Read : ℕ → List ℕ → List ℕ → Type 0
    Read number page body = Held X Fits (λ x. (page ≡ committed (body_of number x)) × (size_of x ≡ count_of body))

    pub collected : Collected X Fits count_of s.kept (λ i body x. (page_of i ≡ committed (body_of (oldest s + i) x)) × (size_of x ≡ count_of body))
    collected = collect X Fits count_of s.kept (λ i body x. (page_of i ≡ committed (body_of (oldest s + i) x)) × (size_of x ≡ count_of body)) (read count_of Read reads)

    pub sized : map size_of collected.pages ≡ filter (nat_lt 0) (ring_counts count_of s).counts
    sized = collected.sizes size_of (λ i body x is. is.1)

    pub followed : Follows (page_at f) r at_least (ring_counts count_of s) n
    followed = follows count_of Read reads

    pub held : RingImage (page_at f) r (ring_counts count_of s) (λ i count page. HoldsPage collected.pages body_of (ring_counts count_of s) i count page)
    held = held_as count_of Read reads (λ i count page. HoldsPage collected.pages body_of (ring_counts count_of s) i count page)
        (λ i body is found.
        let listed = collected.each i body (within i body is) is in
        record {
          holds = listed.0;
          is = listed.1;
          bytes = listed.2.0 ∙ ap (λ (k : ℕ). committed (body_of (k + i) listed.0)) (sym (first_same count_of Read reads));
        })
