-- The marks and states of a ring that pages stand for.
use Rattle.std.proofs.Common.{◌≡◌, ℕ, List, ◌+◌, ◌-◌, ◌*◌, ◌/◌, ◌%◌, ◌<◌, ◌≤◌, true, false, get_or, None, inl, inr, refl, sym, ◌∙◌, ap, subst, arith}
use Rattle.std.proofs.Math.Nat.{mod-add-mod}
use Rattle.std.proofs.lemmas.Bool.{cases_lt, cases_Bool}
use Rattle.fl_mark.specs.Mark.{state_of_page}
use Rattle.fl_ring.specs.Finding.{kept_pages}
use Rattle.fl_ring.specs.Front.{IsFront, blanks}
use Rattle.fl_ring.specs.Head.{counts_full, fulls, page_in}
use Rattle.fl_ring.specs.Newest.{page_back}
use Rattle.fl_ring.specs.Ring.{Shape, RingState, IsShape, OnRing, HoldsKept, count, room, place}
use Rattle.fl_ring.proofs.Facts.{sizes, two_blocks}
use Rattle.fl_ring.proofs.Found.{blank_state, kept_sealed, head_found}
use Rattle.fl_ring.proofs.Good.{front_found, no_gap, torn_found, kept_found, place_found, kept_at_back}
use Rattle.fl_rules.specs.Marks.{HasOneHead, IsOrdered, AreMarks, kept_page}
use Rattle.fl_rules.specs.Rest.{IsRestBlank}
use Rattle.fl_rules.specs.States.{IsBlankAfter, page_after, HaveStates, StatesBreak}
use Rattle.fl_rules.specs.declared.marks.Marks.{Marks}

-- what holds doesn't break
pub states_hold : (page : ℕ → List ℕ) (r : Shape) (m : Marks) (p : ℕ) → HaveStates page r m → StatesBreak page r m p → ⊥
states_hold page r m p states (inl unsealed) = unsealed.first.here (states.kept unsealed.i unsealed.first.within)
states_hold page r m p states (inr (inl gap)) = omega (arith, gap.some, states.ordered)
states_hold page r m p states (inr (inr begun)) = begun.ahead (states.ahead begun.last begun.torn)

module _ (r : Shape) (s : RingState) (shape : IsShape r) (page : ℕ → List ℕ) (on : OnRing r page s) where
  pub good_head : HasOneHead page r
  good_head = (head_found r s shape on.ring page on).0

  module _ (m : Marks) (marks : AreMarks page r m) where
    abbrev head : ℕ
    head = s.next / r.per_block % r.blocks

    head_is : m.head ≡ head
    head_is = marks.head ∙ (head_found r s shape on.ring page on).1

    ordered : IsOrdered page r head m.pages
    ordered = subst (λ (h : ℕ). IsOrdered page r h m.pages) head_is marks.ordered

    pub all_ordered : m.pages.ordered ≡ r.per_block
    all_ordered = elim (cases_lt m.pages.ordered r.per_block) [
      | inl lt ↦ let gap = ordered.gap lt in
          absurd (no_gap r s shape on.ring page on head (page_in r head m.pages.ordered)
          (record { i = m.pages.ordered; front = m.pages.front; so_far = ordered.front; later = gap.0; within = lt; found = gap.1; place = refl }))
      | inr ge ↦ omega (arith, ge, ordered.within)
    ]

    front : IsFront (λ i. state_of_page (page (page_in r head i))) r.per_block r.per_block m.pages.front
    front = subst (λ (n : ℕ). IsFront (λ i. state_of_page (page (page_in r head i))) r.per_block n m.pages.front) all_ordered ordered.front

    pub sealed_is : m.pages.front.sealed ≡ s.next % r.per_block
    sealed_is = front_found r s shape on.ring page on r.per_block m.pages.front front front.below

    pub torn_is : m.pages.front.torn ≡ s.torn
    torn_is = torn_found r s shape on.ring page on m.pages.front front

    pub at_is : m.at ≡ s.next % room r
    at_is =
        marks.at ∙ ap (λ (h : ℕ). h * r.per_block + m.pages.front.sealed) head_is ∙ ap (λ (k : ℕ). head * r.per_block + k) sealed_is
        ∙ place_found r s shape on.ring page on

    pub kept_is : m.kept ≡ count s
    kept_is = marks.kept ∙ ap (λ (k : ℕ). kept_pages r (fulls (counts_full r page) r.blocks) k) sealed_is ∙ kept_found r s shape on.ring page on

    page_is : (i : ℕ) → kept_page r m i ≡ page_back r (s.next % room r) (count s - i)
    page_is i = ap (λ (a : ℕ). page_back r a (m.kept - i)) at_is ∙ ap (λ (k : ℕ). page_back r (s.next % room r) (k - i)) kept_is

    pub holds_kept : (i : ℕ) → i < m.kept → HoldsKept r (get_or s.kept i None) (page (kept_page r m i))
    holds_kept i lt =
        let e : count s - (count s - i) ≡ i = omega (arith, lt, kept_is) in
        subst (λ (p : ℕ). HoldsKept r (get_or s.kept i None) (page p)) (sym (page_is i))
        (subst (λ (j : ℕ). HoldsKept r (get_or s.kept j None) (page (page_back r (s.next % room r) (count s - i)))) e
        (kept_at_back r s shape on.ring page on (count s - i) (omega (arith, lt, kept_is)) (omega arith)))

    after_is : (j : ℕ) → page_after r m.at j ≡ place r (s.next + j)
    after_is j = ap (λ (a : ℕ). r.first + (a + j) % room r) at_is ∙ ap (λ (n : ℕ). r.first + n) (mod-add-mod s.next (room r) j)

    blank_after : s.dirty ≡ false → (j : ℕ) → 1 ≤ j → count s + j < room r → IsBlankAfter page r m.at j
    blank_after clean j some few =
        ap (λ (p : ℕ). blanks (state_of_page (page p))) (after_is j) ∙ ap (λ (l : List ℕ). blanks (state_of_page l)) (on.ahead clean j some few) ∙ ap blanks (blank_state r.size)

    clean_torn : s.torn ≡ true → s.dirty ≡ false
    clean_torn torn = elim (cases_Bool s.dirty) [
      | inl dirty ↦ absurd (on.ring.not_both torn dirty)
      | inr clean ↦ clean
    ]

    pub good_states : HaveStates page r m
    good_states = record {
      kept = λ i lt. kept_sealed r (get_or s.kept i None) (page (kept_page r m i)) (holds_kept i lt);
      ordered = all_ordered;
      ahead = λ last torn j low high.
          let few = on.ring.most_ahead (omega (arith, last, sealed_is)) in
          blank_after (clean_torn (sym torn_is ∙ torn)) j low (omega (arith, high, few, sizes r shape, two_blocks r shape, shape.per_block));
    }

    pub good_rest : IsRestBlank page r m
    good_rest = elim (cases_Bool s.dirty) [
      | inl dirty ↦ let w = on.ring.dirty_when dirty in inl (omega (arith, sealed_is, w.0, shape.per_block), omega (arith, kept_is, w.1, two_blocks r shape, shape.per_block))
      | inr clean ↦ inr (λ j low high. blank_after clean j (omega (arith, low, front.below)) (omega (arith, high, kept_is)))
    ]
