-- What a check reads of a ring that a flash stands for, in the words of the model's ring.
use Rattle.std.proofs.Common.{◌≡◌, ◌⊎◌, inl, inr, ℕ, zero, suc, ◌+◌, ◌-◌, ◌%◌, ◌<◌, ◌≤◌, Bool, true, false, ◌||◌, nat_lt, Option, Some, None, is_some, List, [], ◌∷◌, length, get_or, ◌∙◌, ap, arith}
use Rattle.std.specs.List.{slice_get, list_any}
use Rattle.std.proofs.lemmas.Bool.{cases_Bool, lt-ltb, false≢true, or_right}
use Rattle.fl_flash.specs.Flash.{FlashState, page_at}
use Rattle.fl_mark.specs.Mark.{state_of_page}
use Rattle.fl_model.specs.Ring as model
use Rattle.fl_model.proofs.Lists.{slice_get-short}
use Rattle.fl_ring.specs.Mounting.{IsGood}
use Rattle.fl_ring.specs.Newest.{commits, page_back}
use Rattle.fl_ring.specs.Numbers.{renumbered}
use Rattle.fl_ring.specs.Ring.{Shape, RingState, IsShape, count, room, place}
use Rattle.fl_ring.proofs.Good.{back_page}
use Rattle.fl_ring.proofs.GoodNumbers.{commits_some, renumbered_some, renumbered_none}
use Rattle.fl_rules.specs.Marks.{kept_page}
use Rattle.fl_rules.specs.Numbering.{IsNumbered}
use Rattle.fl_rules.specs.declared.numbering.Numbering.{Numbering}
use Rattle.fl_check.proofs.GoodNumbers.{good_next}
use Rattle.fl_check.proofs.GoodStates.{at_is, kept_is, holds_kept}
use Rattle.fl_check.proofs.RingReads.{Reads}

-- a ring's state is that of a ring of the model: a page with a count is committed, and one without is void
pub record IsOf (s : RingState) (ring : model.Ring) : Type 0 where
  pub next : s.next ≡ ring.next
  pub count : count s ≡ length ring.counts
  pub some : (i c : ℕ) → slice_get ring.counts i ≡ Some c → is_some (get_or s.kept i None) ≡ nat_lt 0 c

-- a page with a body is one
pub any_at : (xs : List (Option (List ℕ))) (i : ℕ) → is_some (get_or xs i None) ≡ true → list_any is_some xs ≡ true
any_at [] i e = absurd (false≢true e)
any_at (x ∷ xs) zero e = ap (λ (b : Bool). b || list_any is_some xs) e
any_at (x ∷ xs) (suc i) e = or_right (is_some x) (list_any is_some xs) (any_at xs i e)

module _ (f : FlashState) (r : Shape) (at_least : ℕ) (s : RingState) (shape : IsShape r) (good : IsGood f r at_least s) (ring : model.Ring) (same : IsOf s ring)
    (n : Numbering) (numbered : IsNumbered (page_at f) r at_least n.marks n.next) where
  next_is : n.next ≡ (renumbered r at_least s).next
  next_is = numbered.numbers.next_is ∙ good_next f r at_least s shape good n.marks numbered.marks numbered.numbers.newest numbered.numbers.newest_is

  kept : n.marks.kept ≡ length ring.counts
  kept = kept_is r s shape (page_at f) good.on n.marks numbered.marks ∙ same.count

  at : n.marks.at ≡ s.next % room r
  at = at_is r s shape (page_at f) good.on n.marks numbered.marks

  back : (k : ℕ) → 1 ≤ k → k ≤ length ring.counts → page_at f (page_back r n.marks.at k) ≡ page_at f (place r (ring.next - k))
  back k some few =
      ap (λ (a : ℕ). page_at f (page_back r a k)) at
      ∙ back_page r s shape good.on.ring (page_at f) good.on k some (omega (arith, few, same.count))
      ∙ ap (λ (m : ℕ). page_at f (place r m)) (omega (arith, some, few, same.count, same.next, good.on.ring.not_negative))

  here : (i : ℕ) → i < length ring.counts → page_at f (kept_page r n.marks i) ≡ page_at f (place r (model.oldest ring + i))
  here i lt =
      back (n.marks.kept - i) (omega (arith, lt, kept)) (omega (arith, kept))
      ∙ ap (λ (m : ℕ). page_at f (place r m)) (omega (arith, lt, kept, same.count, same.next, good.on.ring.not_negative))

  committed : (i c : ℕ) → slice_get ring.counts i ≡ Some c → commits (state_of_page (page_at f (kept_page r n.marks i))) ≡ nat_lt 0 c
  committed i c e =
      let lt = slice_get-short ring.counts i c e in
      commits_some r (get_or s.kept i None) (page_at f (kept_page r n.marks i)) (holds_kept r s shape (page_at f) good.on n.marks numbered.marks i (omega (arith, lt, kept))) ∙ same.some i c e

  next : (i c : ℕ) → slice_get ring.counts i ≡ Some c → 0 < c → n.next ≡ ring.next
  next i c e some = next_is ∙ ap (λ (t : RingState). t.next) (renumbered_some r at_least s (any_at s.kept i (same.some i c e ∙ lt-ltb 0 c some))) ∙ same.next

  least : (n.next ≡ ring.next) ⊎ (at_least + length ring.counts ≤ n.next)
  least = elim (cases_Bool (list_any is_some s.kept)) [
    | inl any ↦ inl (next_is ∙ ap (λ (t : RingState). t.next) (renumbered_some r at_least s any) ∙ same.next)
    | inr none ↦ inr (let e : n.next ≡ (renumbered r at_least s).next = next_is in let k = ap (λ (t : RingState). t.next) (renumbered_none r at_least s none) in omega (arith, e, k, same.count))
  ]

  pub reads : Reads (page_at f) r at_least ring n
  reads = record { kept = kept; back = back; at = here; committed = committed; next = next; least = least }
