-- A point after the last of a list, told by a test.
use Rattle.std.proofs.Common.{◌≡◌, ℕ, true, ◌&&◌, nat_lt, Option, Some, None, List, ◌∙◌, ap, refl}
use Rattle.std.specs.Prelude.{IfSome, option_map, unwrap_or}
use Rattle.std.proofs.lemmas.Bool.{lt-ltb}
use Rattle.fl_spline.specs.Points.{IsPast, IsFurther, last_of}
use Rattle.fl_find.specs.Index.{is_further}

pub further-told : (points knots : List (ℕ × ℕ)) (p : ℕ × ℕ) → last_of knots ≡ last_of points → IsFurther points p → is_further knots p ≡ true
further-told points knots p same past = ap (λ (o : Option (ℕ × ℕ)). unwrap_or (option_map (λ end. nat_lt end.0 p.0 && nat_lt end.1 p.1) o) true) same ∙ by_last (last_of points) past
  where
    by_last : (o : Option (ℕ × ℕ)) → IfSome o (λ end. IsPast end p) → unwrap_or (option_map (λ end. nat_lt end.0 p.0 && nat_lt end.1 p.1) o) true ≡ true
    by_last None h = refl
    by_last (Some end) h =
        let first = lt-ltb end.0 p.0 h.0 in
        let second = lt-ltb end.1 p.1 h.1 in
        ap (λ b. b && nat_lt end.1 p.1) first ∙ second

-- what the test says, by the last of the list
pub further-by : (knots : List (ℕ × ℕ)) (p : ℕ × ℕ) (end : Option (ℕ × ℕ)) → last_of knots ≡ end → is_further knots p ≡ unwrap_or (option_map (λ end. nat_lt end.0 p.0 && nat_lt end.1 p.1) end) true
further-by knots p end is = ap (λ (o : Option (ℕ × ℕ)). unwrap_or (option_map (λ end. nat_lt end.0 p.0 && nat_lt end.1 p.1) o) true) is
