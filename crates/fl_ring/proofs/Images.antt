-- A flash that stands for a ring, and the image of a ring in the model.
use Rattle.std.proofs.Common.{◌≡◌, ◌⊎◌, ℕ, zero, suc, ◌+◌, ◌-◌, ◌<◌, ◌≤◌, Bool, true, false, IsTrue, List, ◌++◌, length, replicate, get_or, slice_get, Option, Some, None, option_map, IfSome, MatchBool, inl, inr, refl, sym, ◌∙◌, ap, subst, arith, append_assoc, length-append}
use Rattle.std.proofs.lemmas.Bool.{cases_Bool, cases_lt, MatchBool-at_true, MatchBool-at_false, true≢false}
use Rattle.std.proofs.lemmas.Option.{slice_get_within, slice_get-map, slice_get-get_or}
use Rattle.fl_flash.specs.Flash.{blank}
use Rattle.fl_base.proofs.OneByte.{all_same}
use Rattle.fl_mark.specs.InModel.{IsModelState}
use Rattle.fl_mark.specs.Mark.{state_of_page}
use Rattle.fl_mark.specs.declared.page_state.PageState.TheVariants.{Torn}
use Rattle.fl_mark.proofs.InModel.{model_state}
use Rattle.fl_model.specs.Image.{IsRingImage}
use Rattle.fl_model.specs.Layout.{committed, is_blank, is_void}
use Rattle.fl_model.specs.Ring as model
use Rattle.fl_ring.specs.Counts.{page_count, ring_counts, model_shape, HoldsSome}
use Rattle.fl_ring.specs.Ring.{Shape, RingState, count, oldest, room, place, IsShape, IsRing, HoldsKept, OnRing, committed_end}
use Rattle.fl_ring.proofs.Counts.{counts_length}
use Rattle.fl_ring.proofs.Facts.{two_blocks}
use Rattle.fl_ring.proofs.Facts.{sizes as sizes_of}
use Rattle.fl_ring.proofs.Steps.{blank_is}

-- the bytes at the places of a ring's numbers
abbrev pub bytes_of : Shape → (ℕ → List ℕ) → ℕ → List ℕ
bytes_of r page n = page (place r n)

pub committed_is : (body : List ℕ) → committed body ≡ body ++ committed_end
committed_is body = append_assoc body (replicate 4 0) (replicate 4 255)

module _ (r : Shape) (page : ℕ → List ℕ) (s : RingState) (count_of : List ℕ → ℕ) (sizes : (n : ℕ) → length (page (place r n)) ≡ r.size) (shape : IsShape r) (some : HoldsSome count_of s) where
  abbrev ring : model.Ring
  ring = ring_counts count_of s

  in_model : (n : ℕ) → IsModelState (page (place r n))
  in_model n = model_state (page (place r n)) (omega (arith, sizes n, shape.size))

  blank_at : (n : ℕ) → is_blank (page (place r n)) ≡ true → page (place r n) ≡ blank r.size
  blank_at n e = all_same 255 (page (place r n)) e ∙ ap (λ (k : ℕ). replicate k 255) (sizes n)

  blank_model : (n : ℕ) → page (place r n) ≡ blank r.size → is_blank (page (place r n)) ≡ true
  blank_model n e = ap is_blank e ∙ blank_is r.size

  at_old : (i : ℕ) → page (place r (model.oldest ring + i)) ≡ page (place r (oldest s + i))
  at_old i = ap (λ (n : ℕ). page (place r (s.next - n + i))) (counts_length count_of s)

  -- the count of a kept page, and its body
  count_at : (i : ℕ) → i < count s → slice_get ring.counts i ≡ Some (page_count count_of (get_or s.kept i None))
  count_at i lt = slice_get-map (page_count count_of) s.kept i ∙ ap (λ (o : Option (Option (List ℕ))). option_map (page_count count_of) o) (slice_get-get_or s.kept i None lt)

  -- a page that has a count is kept
  counted : (i n : ℕ) → slice_get ring.counts i ≡ Some n → i < count s
  counted i n e = omega (arith, slice_get_within ring.counts i n e, counts_length count_of s)

  count_is : (i n : ℕ) (x : Option (List ℕ)) → slice_get ring.counts i ≡ Some n → get_or s.kept i None ≡ x → n ≡ page_count count_of x
  count_is i n x e is =
      let there = count_at i (counted i n e) in
      let same : n ≡ page_count count_of (get_or s.kept i None) = cc in
      same ∙ ap (page_count count_of) is

  some_at : (i : ℕ) (body : List ℕ) → i < count s → get_or s.kept i None ≡ Some body → 0 < count_of body
  some_at i body lt is = subst (λ (x : Option (List ℕ)). IfSome x (λ body. 0 < count_of body)) is (some i lt)

  module _ (Holds : ℕ → ℕ → List ℕ → Type 0) where
    -- The flash stands for the ring where its image says so; what a kept page with a count holds gives its body.
    pub on_from_image : IsRing r s → ((i : ℕ) (body : List ℕ) → get_or s.kept i None ≡ Some body → Holds i (count_of body) (page (place r (oldest s + i))) → page (place r (oldest s + i)) ≡ committed body)
        → IsRingImage (model_shape r) ring (bytes_of r page) Holds → OnRing r page s
    on_from_image facts bodies image = record {
      ring = facts;
      kept = λ i lt. kept i lt (get_or s.kept i None) refl;
      head = head s.torn refl;
      ahead = λ clean j le few. blank_at (s.next + j) (image.others j le (omega (arith, few, counts_length count_of s, facts.not_negative)) (λ d. absurd (true≢false (sym d ∙ clean))));
      waits = λ d all. let k = image.dirty d in true≢false (sym (blank_model (s.next + k.0) (all k.0 k.1 k.2)) ∙ k.3);
    }
      where
        head : (b : Bool) → s.torn ≡ b → MatchBool b (state_of_page (page (place r s.next)) ≡ Torn) (page (place r s.next) ≡ blank r.size)
        head true e = (in_model s.next).torn.1 (image.torn_next e)
        head false e = blank_at s.next (image.blank_next e)

        kept : (i : ℕ) → i < count s → (x : Option (List ℕ)) → get_or s.kept i None ≡ x → HoldsKept r (get_or s.kept i None) (page (place r (oldest s + i)))
        kept i lt None is = subst (λ (x : Option (List ℕ)). HoldsKept r x (page (place r (oldest s + i)))) (sym is)
            (ap state_of_page (sym (at_old i)) ∙ (in_model (model.oldest ring + i)).void.1 (image.void i (count_at i lt ∙ ap (λ (x : Option (List ℕ)). Some (page_count count_of x)) is)))
        kept i lt (Some body) is =
            let held = image.kept i (count_of body) (count_at i lt ∙ ap (λ (x : Option (List ℕ)). Some (page_count count_of x)) is) (some_at i body lt is) in
            let bytes = bodies i body is (subst (λ (l : List ℕ). Holds i (count_of body) l) (at_old i) held) ∙ committed_is body in
            subst (λ (x : Option (List ℕ)). HoldsKept r x (page (place r (oldest s + i)))) (sym is)
            (bytes, omega (arith, sym (length-append body committed_end), ap length bytes, sizes (oldest s + i)))

    -- The image is that of the ring where the flash stands for it; the bodies give what each kept page with a count holds.
    pub image_from_on : ((i : ℕ) (body : List ℕ) → get_or s.kept i None ≡ Some body → page (place r (oldest s + i)) ≡ committed body → Holds i (count_of body) (page (place r (oldest s + i))))
        → OnRing r page s → IsRingImage (model_shape r) ring (bytes_of r page) Holds
    image_from_on bodies on = record {
      void = λ i e. void i (counted i 0 e) (get_or s.kept i None) refl e;
      kept = λ i n e above. kept i n (counted i n e) (get_or s.kept i None) refl e above;
      blank_next = λ e. blank_model s.next (MatchBool-at_false _ _ e on.head);
      torn_next = λ e. (in_model s.next).torn.0 (MatchBool-at_true _ _ e on.head);
      dirty = λ d. one_not_blank r.per_block (on.waits d);
      others = λ k above few ahead. others s.dirty refl k above (omega (arith, few, counts_length count_of s, on.ring.not_negative)) ahead;
    }
      where
        void : (i : ℕ) → i < count s → (x : Option (List ℕ)) → get_or s.kept i None ≡ x → slice_get ring.counts i ≡ Some 0 → IsTrue (is_void (page (place r (model.oldest ring + i))))
        void i lt None is e = (in_model (model.oldest ring + i)).void.0 (ap state_of_page (at_old i) ∙ subst (λ (x : Option (List ℕ)). HoldsKept r x (page (place r (oldest s + i)))) is (on.kept i lt))
        void i lt (Some body) is e = absurd (omega (arith, some_at i body lt is, count_is i 0 (Some body) e is))

        kept : (i n : ℕ) → i < count s → (x : Option (List ℕ)) → get_or s.kept i None ≡ x → slice_get ring.counts i ≡ Some n → 0 < n → Holds i n (page (place r (model.oldest ring + i)))
        kept i n lt None is e above = absurd (omega (arith, above, count_is i n None e is))
        kept i n lt (Some body) is e above =
            let held = subst (λ (x : Option (List ℕ)). HoldsKept r x (page (place r (oldest s + i)))) is (on.kept i lt) in
            subst (λ (k : ℕ). Holds i k (page (place r (model.oldest ring + i)))) (sym (count_is i n (Some body) e is))
            (subst (λ (l : List ℕ). Holds i (count_of body) l) (sym (at_old i)) (bodies i body is (held.0 ∙ sym (committed_is body))))

        -- of pages that are not all blank one isn't
        NotBlank : ℕ → Type 0
        NotBlank m = (k : ℕ) × (0 < k) × (k ≤ m) × (is_blank (page (place r (s.next + k))) ≡ false)

        AllBlank : ℕ → Type 0
        AllBlank m = (j : ℕ) → 1 ≤ j → j ≤ m → is_blank (page (place r (s.next + j))) ≡ true

        one_more : (m : ℕ) → NotBlank m ⊎ AllBlank m → (is_blank (page (place r (s.next + suc m))) ≡ true) ⊎ (is_blank (page (place r (s.next + suc m))) ≡ false) → NotBlank (suc m) ⊎ AllBlank (suc m)
        one_more m (inl found) here = inl (found.0, found.1, omega (arith, found.2), found.3)
        one_more m (inr all) (inr here) = inl (suc m, omega arith, omega arith, here)
        one_more m (inr all) (inl here) = inr (λ j low high. elim (cases_lt j (suc m)) [
          | inl below ↦ all j low (omega (arith, below))
          | inr last ↦ let e : j ≡ suc m = omega (arith, last, high) in ap (λ (k : ℕ). is_blank (page (place r (s.next + k)))) e ∙ here
        ])

        search : (m : ℕ) → NotBlank m ⊎ AllBlank m
        search zero = inr (λ j low high. absurd (omega arith))
        search (suc m) = one_more m (search m) (cases_Bool (is_blank (page (place r (s.next + suc m)))))

        one_not_blank : (m : ℕ) → (((j : ℕ) → 1 ≤ j → j ≤ m → page (place r (s.next + j)) ≡ blank r.size) → ⊥) → (k : ℕ) × (0 < k) × (k ≤ m) × (is_blank (page (place r (s.next + k))) ≡ false)
        one_not_blank m waits = elim (search m) [ inl found ↦ found | inr all ↦ absurd (waits (λ j low high. blank_at (s.next + j) (all j low high))) ]

        others : (b : Bool) → s.dirty ≡ b → (k : ℕ) → 0 < k → count s + k < room r → (s.dirty ≡ true → r.per_block < k) → is_blank (page (place r (s.next + k))) ≡ true
        others false clean k above few ahead = blank_model (s.next + k) (on.ahead clean k (omega (arith, above)) few)
        others true dirty k above few ahead = absurd (let far = ahead dirty in let w = on.ring.dirty_when dirty in omega (arith, far, few, w.1, sizes_of r shape, two_blocks r shape, shape.per_block))
