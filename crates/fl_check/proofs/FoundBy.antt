-- The rules on the head, the states and the numbers of a ring give its numbers.
use Rattle.std.proofs.Common.{◌≡◌, ℕ, ◌+◌, ◌*◌, ◌≤◌, Option, Some, None, MatchOption, inl, inr, refl, ◌∙◌, ap, subst, arith}
use Rattle.std.proofs.lemmas.Bool.{cases_lt}
use Rattle.fl_flash.specs.Flash.{FlashState, page_at}
use Rattle.fl_ring.specs.declared.front.Front.{Front}
use Rattle.fl_ring.specs.declared.newest.Newest.{Newest}
use Rattle.fl_ring.specs.Finding.{next_place, kept_at, HasHead, NewestIs, IsFound}
use Rattle.fl_ring.specs.Front.{IsFront}
use Rattle.fl_ring.specs.Head.{page_in}
use Rattle.fl_ring.specs.Looking.{state_at}
use Rattle.fl_ring.specs.Newest.{NoneBefore, IsNewest}
use Rattle.fl_ring.specs.Numbers.{next_by, NumbersFit}
use Rattle.fl_ring.specs.Ring.{Shape}
use Rattle.fl_check.specs.MountLaw.{numbers_of}
use Rattle.fl_rules.specs.Numbering.{IsNumbered}
use Rattle.fl_rules.specs.Numbers.{next_of, FitsPlace}
use Rattle.fl_rules.specs.declared.marks.Marks.{Marks}

module _ (f : FlashState) (r : Shape) (at_least : ℕ) (m : Marks) (next : ℕ) (is : IsNumbered (page_at f) r at_least m next) where
  abbrev front : Front
  front = m.pages.front

  head : HasHead f r front
  head = record {
    one_head = is.marks.one_head;
    front_is = subst (λ (h : ℕ). IsFront (λ i. state_at f (page_in r h i)) r.per_block r.per_block m.pages.front) is.marks.head
        (subst (λ (n : ℕ). IsFront (λ i. state_at f (page_in r m.head i)) r.per_block n m.pages.front) is.states.ordered is.marks.ordered.front);
  }

  at : m.at ≡ next_place f r m.pages.front
  at = is.marks.at ∙ ap (λ (h : ℕ). h * r.per_block + m.pages.front.sealed) is.marks.head

  newest_there : NewestIs f r m.pages.front is.numbers.newest
  newest_there =
      subst (λ (a : ℕ). MatchOption is.numbers.newest (NoneBefore (page_at f) r a (kept_at f r m.pages.front + 1)) (IsNewest (page_at f) r a (kept_at f r m.pages.front))) at
      (subst (λ (k : ℕ). MatchOption is.numbers.newest (NoneBefore (page_at f) r m.at (k + 1)) (IsNewest (page_at f) r m.at k)) is.marks.kept is.numbers.newest_is)

  next_there : next ≡ next_by r (next_place f r m.pages.front) (kept_at f r m.pages.front) at_least is.numbers.newest
  next_there =
      is.numbers.next_is ∙ ap (λ (a : ℕ). next_by r a m.kept at_least is.numbers.newest) at
      ∙ ap (λ (k : ℕ). next_by r (next_place f r m.pages.front) k at_least is.numbers.newest) is.marks.kept

  -- no number is below 0
  few : m.kept ≤ next
  few = elim (cases_lt 0 m.kept) [
    | inl some ↦ omega (arith, (is.numbers.each 0 some).not_negative)
    | inr none ↦ omega (arith, none)
  ]

  fits_by : (newest : Option Newest) → FitsPlace r m newest → next ≡ next_of r m at_least newest → NumbersFit r m.at m.kept at_least m.pages.front.torn newest
  fits_by None place e = omega (arith, is.numbers.left, e)
  fits_by (Some x) place e = (place, omega (arith, few, e), omega (arith, is.numbers.left, e))

  fits_there : NumbersFit r (next_place f r m.pages.front) (kept_at f r m.pages.front) at_least m.pages.front.torn is.numbers.newest
  fits_there =
      subst (λ (a : ℕ). NumbersFit r a (kept_at f r m.pages.front) at_least m.pages.front.torn is.numbers.newest) at
      (subst (λ (k : ℕ). NumbersFit r m.at k at_least m.pages.front.torn is.numbers.newest) is.marks.kept (fits_by is.numbers.newest is.numbers.fits is.numbers.next_is))

  pub found_by : IsFound f r at_least (numbers_of m next)
  found_by = record {
    front = m.pages.front;
    newest = is.numbers.newest;
    head = head;
    newest_is = newest_there;
    fits = fits_there;
    next = next_there;
    oldest = omega (arith, few, is.marks.kept);
    torn = refl;
  }
