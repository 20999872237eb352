-- The numbers of the kept pages, from the oldest on, each its own or the first that isn't.
use Rattle.std.proofs.Common.{◌≡◌, ℕ, ◌+◌, ◌-◌, ◌<◌, ◌≤◌, true, List, arith}
use borrow.Author.Count.{below_more}
use Rattle.fl_mark.specs.Mark.{state_of_page}
use Rattle.fl_ring.specs.Newest.{commits, number_of}
use Rattle.fl_ring.specs.Ring.{Shape}
use Rattle.fl_rules.specs.Claims.{AllBelow, FailsFirst}
use Rattle.fl_rules.specs.Marks.{kept_page}
use Rattle.fl_rules.specs.Numbers.{HasItsNumber}
use Rattle.fl_rules.specs.declared.marks.Marks.{Marks}

module _ (page : ℕ → List ℕ) (r : Shape) (m : Marks) (next i : ℕ) where
  pub all_numbered : i ≡ 0 → AllBelow (HasItsNumber page r m next) i
  all_numbered none k lt = absurd (omega (arith, none, lt))

  pub one_numbered : AllBelow (HasItsNumber page r m next) i → m.kept - i ≤ next →
      (commits (state_of_page (page (kept_page r m i))) ≡ true → number_of (page (kept_page r m i)) + (m.kept - i) ≡ next) → AllBelow (HasItsNumber page r m next) (i + 1)
  one_numbered before least own = below_more (HasItsNumber page r m next) i before (record { not_negative = least; own = own })

  -- below 0
  pub too_low : i < m.kept → AllBelow (HasItsNumber page r m next) i → next < m.kept - i → FailsFirst (HasItsNumber page r m next) m.kept i
  too_low within before low = record { within = within; before = before; here = λ has. absurd (omega (arith, low, has.not_negative)) }

  -- another's
  pub not_own : i < m.kept → AllBelow (HasItsNumber page r m next) i → commits (state_of_page (page (kept_page r m i))) ≡ true → (number_of (page (kept_page r m i)) + (m.kept - i) ≡ next → ⊥) →
      FailsFirst (HasItsNumber page r m next) m.kept i
  not_own within before commits_here other = record { within = within; before = before; here = λ has. other (has.own commits_here) }

-- a page has its own number where the one that was read of it and the way back make the next one
pub its_own : {own number wide back wide_back next : ℕ} → number ≡ own → wide ≡ number → wide_back ≡ back → wide + wide_back ≡ next → own + back ≡ next
its_own number_is wide_is back_is next_is = omega (arith, number_is, wide_is, back_is, next_is)

pub own_told : {own number wide back wide_back next : ℕ} → number ≡ own → wide ≡ number → wide_back ≡ back → own + back ≡ next → wide + wide_back ≡ next
own_told number_is wide_is back_is next_is = omega (arith, number_is, wide_is, back_is, next_is)
