-- The numbers of a ring's pages, by the newest committed one or by none.
use Rattle.std.proofs.Common.{◌≡◌, ℕ, List, ◌+◌, ◌-◌, ◌≤◌, Option, Some, None, IfSome, IfNone, inl, inr, sym, ◌∙◌, subst, arith}
use Rattle.std.proofs.lemmas.Bool.{true≢false}
use Rattle.fl_ring.specs.declared.newest.Newest.{Newest}
use Rattle.fl_ring.specs.Newest.{NoneBefore, IsNewest}
use Rattle.fl_ring.specs.Ring.{Shape}
use Rattle.fl_rules.specs.Claims.{AllBelow, FailsFirst}
use Rattle.fl_rules.specs.Marks.{kept_page}
use Rattle.fl_rules.specs.Numbers.{NewestOf, next_of, FitsPlace, HasItsNumber, IsLeft, HaveNumbers, NumbersBreak}
use Rattle.fl_rules.specs.declared.marks.Marks.{Marks}

pub newest_some : (page : ℕ → List ℕ) (r : Shape) (m : Marks) (o : Option Newest) (newest : Newest) → o ≡ Some newest → IfSome o (λ n. IsNewest page r m.at m.kept n) → NewestOf page r m (Some newest)
newest_some page r m o newest e is = subst (λ (x : Option Newest). IfSome x (λ n. IsNewest page r m.at m.kept n)) e is

pub newest_none : (page : ℕ → List ℕ) (r : Shape) (m : Marks) (o : Option Newest) → o ≡ None → IfNone o (NoneBefore page r m.at (m.kept + 1)) → NewestOf page r m None
newest_none page r m o e none = subst (λ (x : Option Newest). IfNone x (NoneBefore page r m.at (m.kept + 1))) e none

-- where no page is committed, no page has a number of its own
pub none_numbered : (page : ℕ → List ℕ) (r : Shape) (m : Marks) (next : ℕ) → NoneBefore page r m.at (m.kept + 1) → m.kept ≤ next → AllBelow (HasItsNumber page r m next) m.kept
none_numbered page r m next none few = λ i lt. record {
  not_negative = omega (arith, few);
  own = λ is. absurd (true≢false (sym is ∙ none (m.kept - i) (omega (arith, lt)) (omega arith)));
}

pub least_is : (r : Shape) (m : Marks) (at_least : ℕ) → m.kept ≤ next_of r m at_least None
least_is r m at_least = omega arith

pub none_for : (page : ℕ → List ℕ) (r : Shape) (m : Marks) (at_least next : ℕ) → NewestOf page r m None → next ≡ next_of r m at_least None → IsLeft m next → HaveNumbers page r m at_least next
none_for page r m at_least next none e left = record {
  newest = None;
  newest_is = none;
  fits = tt;
  next_is = e;
  each = none_numbered page r m next none (let least = least_is r m at_least in omega (arith, least, e));
  left = left;
}

pub spent_for : (page : ℕ → List ℕ) (r : Shape) (m : Marks) (at_least p : ℕ) → NewestOf page r m None → (IsLeft m (next_of r m at_least None) → ⊥) → p ≡ r.first → NumbersBreak page r m at_least p
spent_for page r m at_least p none spent is = inr (inr (record {
  newest = None;
  newest_is = none;
  fits = tt;
  each = none_numbered page r m (next_of r m at_least None) none (least_is r m at_least);
  none = spent;
  is = is;
}))

module _ (page : ℕ → List ℕ) (r : Shape) (m : Marks) (at_least : ℕ) (newest : Newest) (next : ℕ) (e : next ≡ newest.number + newest.back) (newest_is : NewestOf page r m (Some newest)) (fits : FitsPlace r m (Some newest)) where
  pub misnumbered_for : (o : Option ℕ) (i p : ℕ) → IfSome o (FailsFirst (HasItsNumber page r m next) m.kept) → o ≡ Some i → p ≡ kept_page r m i → NumbersBreak page r m at_least p
  misnumbered_for o i p some is at = inr (inl (record {
    newest = Some newest;
    newest_is = newest_is;
    fits = fits;
    i = i;
    first = subst (λ (n : ℕ). FailsFirst (HasItsNumber page r m n) m.kept i) e (subst (λ (x : Option ℕ). IfSome x (FailsFirst (HasItsNumber page r m next) m.kept)) is some);
    is = at;
  }))

  pub too_great_for : (p : ℕ) → AllBelow (HasItsNumber page r m next) m.kept → (IsLeft m next → ⊥) → p ≡ r.first → NumbersBreak page r m at_least p
  too_great_for p each none at = inr (inr (record {
    newest = Some newest;
    newest_is = newest_is;
    fits = fits;
    each = subst (λ (n : ℕ). AllBelow (HasItsNumber page r m n) m.kept) e each;
    none = λ left. none (subst (IsLeft m) (sym e) left);
    is = at;
  }))

  pub numbers_for : AllBelow (HasItsNumber page r m next) m.kept → IsLeft m next → HaveNumbers page r m at_least next
  numbers_for each left = record { newest = Some newest; newest_is = newest_is; fits = fits; next_is = e; each = each; left = left }

pub all_for : (page : ℕ → List ℕ) (r : Shape) (m : Marks) (next : ℕ) (o : Option ℕ) → IfNone o (AllBelow (HasItsNumber page r m next) m.kept) → o ≡ None → AllBelow (HasItsNumber page r m next) m.kept
all_for page r m next o all is = subst (λ (x : Option ℕ). IfNone x (AllBelow (HasItsNumber page r m next) m.kept)) is all
