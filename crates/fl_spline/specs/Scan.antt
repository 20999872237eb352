-- The segments found so far, as the points come one by one. All points of the last segment are kept here, and no slope.
use Rattle.std.specs.Prelude.{ℕ, ◌≡◌, List, [], ◌∷◌, ◌++◌, Option, Some, None, fold, if◌then◌else◌}
use Rattle.fl_spline.specs.declared.corridor.Corridor.{Corridor}
use Rattle.fl_spline.specs.Points.{newest}
use Rattle.fl_spline.specs.Corridor.{Covers, passes}

-- the knots that are fixed, the one at which the last segment begins, and the points after it
pub record Scan : Type 0 where
  pub fixed : List (ℕ × ℕ)
  pub base : ℕ × ℕ
  pub run : List (ℕ × ℕ)

-- the last of a list, or a where there is none
abbrev pub end_or : ℕ × ℕ → List (ℕ × ℕ) → ℕ × ℕ
end_or a [] = a
end_or a (p ∷ ps) = end_or p ps

-- one more point
abbrev pub scan_step : ℕ → Option Scan → ℕ × ℕ → Option Scan
scan_step error None p = Some record { fixed = []; base = p; run = [] }
scan_step error (Some s) p =
    if passes error s.base s.run p
    then Some record { fixed = s.fixed; base = s.base; run = s.run ++ p ∷ [] }
    else Some record { fixed = s.fixed ++ s.base ∷ []; base = end_or s.base s.run; run = p ∷ [] }

abbrev pub scan : ℕ → List (ℕ × ℕ) → Option Scan
scan error points = fold (scan_step error) None points

-- the end of a run, if it has one
abbrev pub end_of : List (ℕ × ℕ) → List (ℕ × ℕ)
end_of [] = []
end_of (p ∷ ps) = end_or p ps ∷ []

-- the knots of a scan
abbrev pub scan_knots : Option Scan → List (ℕ × ℕ)
scan_knots None = []
scan_knots (Some s) = s.fixed ++ s.base ∷ end_of s.run

-- the corridor stands for the points of the last segment
pub record Corresponds (error : ℕ) (s : Scan) (c : Corridor) : Type 0 where
  pub base : c.base ≡ s.base
  pub covers : Covers error c s.run
  pub first : s.run ≡ [] → s.fixed ≡ []

abbrev pub CorridorHolds : ℕ → Option Scan → Corridor → Type 0
CorridorHolds error None c = Unit {0}
CorridorHolds error (Some s) c = Corresponds error s c

-- knots and corridor are those of the scan
pub record Holds (n error : ℕ) (s : Option Scan) (ks : List (ℕ × ℕ)) (c : Corridor) : Type 0 where
  pub knots : ks ≡ newest n (scan_knots s)
  pub corridor : CorridorHolds error s c
