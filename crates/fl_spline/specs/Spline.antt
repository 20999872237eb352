-- What a spline has of the points that were added.
use Rattle.std.specs.Prelude.{ℕ, ◌≡◌, List}
use Rattle.fl_model.specs.Spline.{retained}
use Rattle.fl_spline.specs.declared.spline.Spline.{Spline}
use Rattle.fl_spline.specs.Points.{Rises, last_of}
use Rattle.fl_spline.specs.Scan.{CorridorHolds, scan}

-- how many pages the lines of a spline may be off
abbrev pub error_of : {KNOTS : ℕ} → Spline KNOTS → ℕ
error_of s = s.error

-- the knots that a spline keeps, oldest first
abbrev pub kept : {KNOTS : ℕ} → Spline KNOTS → List (ℕ × ℕ)
kept s = s.knots.items

-- the spline, with this error, of these points: it keeps the newest KNOTS of their knots
pub record SplineOf {KNOTS : ℕ} (error : ℕ) (points : List (ℕ × ℕ)) (s : Spline KNOTS) : Type 0 where
  pub knots : kept s ≡ retained KNOTS error points
  pub last : last_of (kept s) ≡ last_of points
  pub rises : Rises points
  pub bound : error_of s ≡ error
  pub corridor : CorridorHolds error (scan error points) s.corridor
