-- The last point of a list, and what lies below it.
use Rattle.std.proofs.Common.{◌≡◌, ◌∙◌, ℕ, ◌≤◌, List, [], ◌∷◌, ◌++◌, length, refl, sym, ap, Some, None, arith, length-append}
use Rattle.std.proofs.lemmas.Option.{none-some, same_Some}
use Rattle.fl_spline.specs.Points.{Rises, last_of}
use Rattle.fl_spline.proofs.Lists.{last_of-at}

-- a list with no last point has none
pub none-are : (points : List (ℕ × ℕ)) → last_of points ≡ None → points ≡ []
none-are [] none = refl
none-are (p ∷ ps) none = absurd (none-some _ (sym none ∙ last_of-at (p ∷ ps) (0, 0) (omega arith)))

-- one point more makes the list longer
pub one-more : (points : List (ℕ × ℕ)) (p : ℕ × ℕ) (new : List (ℕ × ℕ)) → new ≡ points ++ p ∷ [] → length new ≡ length points → ⊥
one-more points p new is count = omega (arith, ap length is, count, length-append points (p ∷ []))

pub rises-one : (p : ℕ × ℕ) → Rises (p ∷ [])
rises-one p i j d less within = absurd (omega (arith, less, within))

-- a point that isn't past the last one stays so, whatever the last one is called
pub ends-with : (points : List (ℕ × ℕ)) (end under at : ℕ × ℕ) → under ≡ at → last_of points ≡ Some end → (under.0 ≤ end.0) × (under.1 ≤ end.1)
    → (x : ℕ × ℕ) → last_of points ≡ Some x → (at.0 ≤ x.0) × (at.1 ≤ x.1)
ends-with points end under at same last le x is = rw (sym same, sym (same_Some _ _ (sym last ∙ is))) le
