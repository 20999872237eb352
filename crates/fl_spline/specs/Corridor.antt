-- The two slopes that a corridor keeps, against the points that it covers.
use Rattle.std.specs.Prelude.{ℕ, ◌+◌, ◌-◌, ◌*◌, ◌<◌, ◌≡◌, List, Bool, nat_le, if◌then◌else◌}
use Rattle.std.specs.List.{list_all}
use Rattle.fl_model.specs.Spline.{is_near}
use Rattle.fl_spline.specs.declared.corridor.Slope.{Slope}
use Rattle.fl_spline.specs.declared.corridor.Corridor.{Corridor}

-- the line from a to b passes each of the points between within the error
abbrev pub passes : ℕ → ℕ × ℕ → List (ℕ × ℕ) → ℕ × ℕ → Bool
passes error a between b = list_all (is_near error a b) between

-- a line from a that rises dy over dx is at most `error` above, or below, the point p
abbrev pub is_below_at : ℕ → ℕ × ℕ → ℕ → ℕ → ℕ × ℕ → Bool
is_below_at error a dx dy p = nat_le (dy * (p.0 - a.0)) ((p.1 - a.1 + error) * dx)

abbrev pub is_above_at : ℕ → ℕ × ℕ → ℕ → ℕ → ℕ × ℕ → Bool
is_above_at error a dx dy p = nat_le ((p.1 - a.1 - error) * dx) (dy * (p.0 - a.0))

-- the line is no steeper, or no flatter, than the slope
abbrev pub is_below : ℕ → ℕ → Slope → Bool
is_below dx dy s = nat_le (dy * s.run) (s.rise * dx)

abbrev pub is_above : ℕ → ℕ → Slope → Bool
is_above dx dy s = nat_le (s.rise * dx) (dy * s.run)

-- the lesser and the greater of two slopes
abbrev pub lesser : Slope → Slope → Slope
lesser s t = if nat_le (s.rise * t.run) (t.rise * s.run) then s else t

abbrev pub greater : Slope → Slope → Slope
greater s t = if nat_le (t.rise * s.run) (s.rise * t.run) then s else t

-- a line lies between the two slopes exactly where it passes each of the points within the error
pub record Covers (error : ℕ) (c : Corridor) (points : List (ℕ × ℕ)) : Type 0 where
  pub some_upper : 0 < c.upper.rise + c.upper.run
  pub some_lower : 0 < c.lower.run
  pub upper : (dx dy : ℕ) → 0 < dx → list_all (is_below_at error c.base dx dy) points ≡ is_below dx dy c.upper
  pub lower : (dx dy : ℕ) → 0 < dx → list_all (is_above_at error c.base dx dy) points ≡ is_above dx dy c.lower
