-- Points: pairs of a first key and a page's number, in the order in which they come.
use Rattle.std.specs.Prelude.{ℕ, ◌+◌, ◌-◌, ◌<◌, ◌≤◌, ◌≡◌, List, length, drop, Option, IfSome, option_map, slice_get, slice_index_or}
use Rattle.std.specs.List.{AllPairs}

-- a later point has a greater key and a greater page; so lines between points rise, and a difference of two points
-- is never cut off at 0
abbrev pub IsPast : ℕ × ℕ → ℕ × ℕ → Type 0
IsPast p q = (p.0 < q.0) × (p.1 < q.1)

abbrev pub Rises : List (ℕ × ℕ) → Type 0
Rises points = AllPairs IsPast points

abbrev pub last_of : List (ℕ × ℕ) → Option (ℕ × ℕ)
last_of points = slice_get points (length points - 1)

-- a point comes after the last of a list, if there is one
abbrev pub IsFurther : List (ℕ × ℕ) → ℕ × ℕ → Type 0
IsFurther points p = IfSome (last_of points) (λ end. IsPast end p)

-- the newest n of a list
abbrev pub newest : ℕ → List (ℕ × ℕ) → List (ℕ × ℕ)
newest n points = drop (length points - n) points

-- the key of the first point of a list, if it has one
abbrev pub oldest_key : List (ℕ × ℕ) → Option ℕ
oldest_key points = option_map (λ point. point.0) (slice_get points 0)

-- the last point of a list moved to a later key, or stayed, and all others are as they were
pub record LastMoved (old new : List (ℕ × ℕ)) : Type 0 where
  pub count : length new ≡ length old
  pub first : (slice_index_or new 0 (0, 0)).0 ≡ (slice_index_or old 0 (0, 0)).0
  pub before : (j : ℕ) → j + 1 < length old → slice_index_or new j (0, 0) ≡ slice_index_or old j (0, 0)
  pub later : (slice_index_or old (length old - 1) (0, 0)).0 ≤ (slice_index_or new (length old - 1) (0, 0)).0
