-- The segment of a key, and how near the estimate of a key is to its page.
use Rattle.std.specs.Prelude.{ℕ, ◌+◌, ◌<◌, ◌≤◌, ◌≡◌, List, length, IfSome, slice_index_or}
use Rattle.fl_spline.specs.Points.{last_of}

abbrev pub point_at : List (ℕ × ℕ) → ℕ → ℕ × ℕ
point_at points i = slice_index_or points i (0, 0)

-- i is the last knot whose key is at most the key
pub record IsSegment (knots : List (ℕ × ℕ)) (key i : ℕ) : Type 0 where
  pub within : i < length knots
  pub at_most : (point_at knots i).0 ≤ key
  pub last : (j : ℕ) → i < j → j < length knots → key < (point_at knots j).0

-- no point whose key is at most the key has a page above the estimate plus the error, no point past the key has one
-- below the estimate minus the error, and from the last point on the estimate is that point's page
pub record InWindow (error : ℕ) (points : List (ℕ × ℕ)) (key estimate : ℕ) : Type 0 where
  pub from : (i : ℕ) → i < length points → (point_at points i).0 ≤ key → (point_at points i).1 ≤ estimate + error
  pub to : (i : ℕ) → i < length points → key < (point_at points i).0 → estimate ≤ (point_at points i).1 + error
  pub end : IfSome (last_of points) (λ end. end.0 ≤ key → estimate ≡ end.1)
