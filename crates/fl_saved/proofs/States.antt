-- The state of each page of a ring of an image, by the ring.
use Rattle.std.proofs.Common.{◌≡◌, ◌⊎◌, inl, inr, ℕ, ◌+◌, ◌-◌, ◌*◌, ◌<◌, ◌≤◌, true, false, cond, ◌&&◌, ◌==◌, nat_lt, if◌then◌else◌, Some, unwrap_or, List, length, sym, ◌∙◌, ap, subst, arith}
use Rattle.std.specs.List.{slice_get}
use Rattle.std.proofs.lemmas.Bool.{cases_Bool, cases_lt, eq-eqb, le-ltb, lt-ltb, ne_eqb, false≢true}
use Rattle.fl_mark.specs.Mark.{state_of_page}
use Rattle.fl_mark.specs.declared.page_state.PageState.{PageState}
use Rattle.fl_mark.specs.declared.page_state.PageState.TheVariants.{Blank, Torn, Committed, Void}
use Rattle.fl_mark.proofs.InModel.{model_state}
use Rattle.fl_model.specs.Image.{IsRingImage}
use Rattle.fl_model.specs.Layout.{is_blank, is_void, IsTornPage}
use Rattle.fl_model.specs.Ring.{Shape, Ring, IsRing, oldest}
use Rattle.fl_model.proofs.Lists.{slice_get-some}
use Rattle.fl_saved.proofs.Places.{IsKept, count_of, kept-count}

-- a kept page is committed or void, and of the others the next may be torn
abbrev pub state_in : Ring → ℕ → PageState
state_in ring number =
    if nat_lt number ring.next then (if nat_lt 0 (count_of ring number) then Committed else Void)
    else if (number == ring.next) && ring.torn then Torn else Blank

module _ (shape : Shape) (ring : Ring) (at : ℕ → List ℕ) (Holds : ℕ → ℕ → List ℕ → Type 0) (is : IsRing shape ring) (clean : ring.dirty ≡ false) (image : IsRingImage shape ring at Holds)
    (long : (number : ℕ) → 8 ≤ length (at number)) (kept : (number : ℕ) → IsKept ring Holds number (at number) → state_of_page (at number) ≡ Committed) where
  kept-state : (number : ℕ) → oldest ring ≤ number → number < ring.next → state_of_page (at number) ≡ cond (nat_lt 0 (count_of ring number)) Committed Void
  kept-state number low lt =
      let c = slice_get-some ring.counts (number - oldest ring) (omega (arith, low, lt, is.not_negative)) in
      let there : oldest ring + (number - oldest ring) ≡ number = omega (arith, low) in
      by_count c.0 c.1 there (cases_lt 0 c.0)
    where
      by_count : (count : ℕ) → slice_get ring.counts (number - oldest ring) ≡ Some count → oldest ring + (number - oldest ring) ≡ number → (0 < count) ⊎ (count ≤ 0)
          → state_of_page (at number) ≡ cond (nat_lt 0 (count_of ring number)) Committed Void
      by_count count e there (inl some) =
          kept number (record { i = number - oldest ring; count = count; at = there; counted = e; some = some; holds = subst (λ n. Holds (number - oldest ring) count (at n)) there (image.kept (number - oldest ring) count e some) })
          ∙ sym (ap (λ b. cond b Committed Void) (ap (nat_lt 0) (kept-count ring (number - oldest ring) count number there e) ∙ lt-ltb 0 count some))
      by_count count e there (inr none) =
          let z : count ≡ 0 = omega (arith, none) in
          let here : slice_get ring.counts (number - oldest ring) ≡ Some 0 = e ∙ ap (λ n. Some n) z in
          (model_state (at number) (long number)).void.1 (subst (λ n. is_void (at n) ≡ true) there (image.void (number - oldest ring) here))
          ∙ sym (ap (λ n. cond (nat_lt 0 n) Committed Void) (ap (λ o. unwrap_or o 0) here))

  later-state : (number : ℕ) → ring.next ≤ number → number < oldest ring + shape.blocks * shape.pages → state_of_page (at number) ≡ cond ((number == ring.next) && ring.torn) Torn Blank
  later-state number le lt = elim (cases_lt ring.next number) [
    | inl after ↦
        let there : ring.next + (number - ring.next) ≡ number = omega (arith, after) in
        let blank = image.others (number - ring.next) (omega (arith, after)) (omega (arith, lt, there)) (λ dirty. absurd (false≢true (sym clean ∙ dirty))) in
        let apart : (number == ring.next) ≡ false = ne_eqb number ring.next (λ e. let no : ⊥ = omega (arith, e, after) in no) in
        (model_state (at number) (long number)).blank.1 (subst (λ n. is_blank (at n) ≡ true) there blank)
        ∙ sym (ap (λ b. cond (b && ring.torn) Torn Blank) apart)
    | inr here ↦
        let same : ring.next ≡ number = omega (arith, le, here) in
        by_torn same (cases_Bool ring.torn) ∙ sym (ap (λ b. cond (b && ring.torn) Torn Blank) (eq-eqb number ring.next (sym same)))
  ]
    where
      by_torn : ring.next ≡ number → (ring.torn ≡ true) ⊎ (ring.torn ≡ false) → state_of_page (at number) ≡ cond ring.torn Torn Blank
      by_torn same (inl torn) = (model_state (at number) (long number)).torn.1 (subst (λ n. IsTornPage (at n)) same (image.torn_next torn)) ∙ sym (ap (λ b. cond b Torn Blank) torn)
      by_torn same (inr not) = (model_state (at number) (long number)).blank.1 (subst (λ n. is_blank (at n) ≡ true) same (image.blank_next not)) ∙ sym (ap (λ b. cond b Torn Blank) not)

  pub state-is : (number : ℕ) → oldest ring ≤ number → number < oldest ring + shape.blocks * shape.pages → state_of_page (at number) ≡ state_in ring number
  state-is number low high = elim (cases_lt number ring.next) [
    | inl lt ↦ kept-state number low lt ∙ sym (ap (λ b. cond b (cond (nat_lt 0 (count_of ring number)) Committed Void) (cond ((number == ring.next) && ring.torn) Torn Blank)) (lt-ltb number ring.next lt))
    | inr le ↦ later-state number le high ∙ sym (ap (λ b. cond b (cond (nat_lt 0 (count_of ring number)) Committed Void) (cond ((number == ring.next) && ring.torn) Torn Blank)) (le-ltb number ring.next le))
  ]
