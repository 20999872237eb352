-- The numbers of a ring that a flash stands for.
use Rattle.std.proofs.Common.{◌≡◌, ℕ, ◌+◌, ◌*◌, Option, Some, None, MatchOption, get_or, inl, inr, sym, ◌∙◌, ap, subst, arith}
use Rattle.fl_flash.specs.Flash.{FlashState, page_at}
use Rattle.fl_ring.specs.declared.newest.Newest.{Newest}
use Rattle.fl_ring.specs.Finding.{next_place, kept_at, HasHead, NewestIs}
use Rattle.fl_ring.specs.Front.{IsFront}
use Rattle.fl_ring.specs.Head.{one, page_in}
use Rattle.fl_ring.specs.Looking.{state_at}
use Rattle.fl_ring.specs.Mounting.{IsGood}
use Rattle.fl_ring.specs.Newest.{back_from, NoneBefore, IsNewest}
use Rattle.fl_ring.specs.Numbers.{renumbered, next_by}
use Rattle.fl_ring.specs.Ring.{Shape, RingState, IsShape, oldest}
use Rattle.fl_ring.proofs.GoodNumbers.{commits_some, number_some, number_is, next_is, fits}
use Rattle.fl_rules.specs.Claims.{AllBelow}
use Rattle.fl_rules.specs.Marks.{AreMarks, kept_page}
use Rattle.fl_rules.specs.Numbers.{NewestOf, next_of, FitsPlace, HasItsNumber, IsLeft, NumbersBreak}
use Rattle.fl_rules.specs.declared.marks.Marks.{Marks}
use Rattle.fl_check.proofs.GoodStates.{all_ordered, torn_is, kept_is, holds_kept}
use Rattle.fl_rules.proofs.NumbersOfRing.{none_numbered, least_is}

module _ (f : FlashState) (r : Shape) (at_least : ℕ) (s : RingState) (shape : IsShape r) (good : IsGood f r at_least s) (m : Marks) (marks : AreMarks (page_at f) r m) where
  head : HasHead f r m.pages.front
  head = record {
    one_head = marks.one_head;
    front_is = subst (λ (h : ℕ). IsFront (λ i. state_at f (page_in r h i)) r.per_block r.per_block m.pages.front) marks.head
        (subst (λ (n : ℕ). IsFront (λ i. state_at f (page_in r m.head i)) r.per_block n m.pages.front) (all_ordered r s shape (page_at f) good.on m marks) marks.ordered.front);
  }

  at : m.at ≡ next_place f r m.pages.front
  at = marks.at ∙ ap (λ (h : ℕ). h * r.per_block + m.pages.front.sealed) marks.head

  newest_there : (newest : Option Newest) → NewestOf (page_at f) r m newest → NewestIs f r m.pages.front newest
  newest_there newest is =
      subst (λ (a : ℕ). MatchOption newest (NoneBefore (page_at f) r a (kept_at f r m.pages.front + 1)) (IsNewest (page_at f) r a (kept_at f r m.pages.front))) at
      (subst (λ (k : ℕ). MatchOption newest (NoneBefore (page_at f) r m.at (k + 1)) (IsNewest (page_at f) r m.at k)) marks.kept is)

  pub good_next : (newest : Option Newest) → NewestOf (page_at f) r m newest → next_of r m at_least newest ≡ (renumbered r at_least s).next
  good_next newest is =
      ap (λ (a : ℕ). next_by r a m.kept at_least newest) at ∙ ap (λ (k : ℕ). next_by r (next_place f r m.pages.front) k at_least newest) marks.kept
      ∙ next_is f r s at_least shape good.on m.pages.front head good.numbered newest (newest_there newest is)

  pub good_place : (newest : Option Newest) → NewestOf (page_at f) r m newest → FitsPlace r m newest
  good_place None is = tt
  good_place (Some x) is =
      (fits f r s at_least shape good.on m.pages.front head good.numbered (Some x) (newest_there (Some x) is) good.fits).0 ∙ ap (λ (a : ℕ). back_from r a x.back) (sym at)

  pub good_each : (newest : Option Newest) → NewestOf (page_at f) r m newest → AllBelow (HasItsNumber (page_at f) r m (next_of r m at_least newest)) m.kept
  good_each None is = none_numbered (page_at f) r m (next_of r m at_least None) is (least_is r m at_least)
  good_each (Some x) is = λ i lt.
      let next = number_is f r s at_least shape good.on m.pages.front head good.numbered x (newest_there (Some x) is) in
      let kept = kept_is r s shape (page_at f) good.on m marks in
      let holds = holds_kept r s shape (page_at f) good.on m marks i lt in
      record {
        not_negative = omega (arith, next, kept, good.on.ring.not_negative);
        own = λ committed.
            let some = sym (commits_some r (get_or s.kept i None) (page_at f (kept_page r m i)) holds) ∙ committed in
            let number = number_some r (get_or s.kept i None) (page_at f (kept_page r m i)) (oldest s + i) shape holds some (good.numbered i (omega (arith, lt, kept))) in
            omega (arith, number, next, kept, lt, good.on.ring.not_negative);
      }

  pub good_left : (newest : Option Newest) → NewestOf (page_at f) r m newest → IsLeft m (next_of r m at_least newest)
  good_left newest is = omega (arith, good_next newest is, ap one (torn_is r s shape (page_at f) good.on m marks), good.fits)

  pub numbers_hold : (p : ℕ) → NumbersBreak (page_at f) r m at_least p → ⊥
  numbers_hold p (inl misplaced) = misplaced.unfit (good_place (Some misplaced.newest) misplaced.newest_is)
  numbers_hold p (inr (inl misnumbered)) = misnumbered.first.here (good_each misnumbered.newest misnumbered.newest_is misnumbered.i misnumbered.first.within)
  numbers_hold p (inr (inr spent)) = spent.none (good_left spent.newest spent.newest_is)
