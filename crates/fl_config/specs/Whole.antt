-- A configuration with a device and a table at least, and the places of its tables.
use Rattle.std.specs.Prelude.{◌≡◌, Bool, true, false, Option, Some, None, List, [], ◌∷◌}
use Rattle.fl_base.specs.declared.types.Geometry.{Geometry}
use Rattle.fl_model.specs.Record.{Plan, Config}
use Rattle.fl_words.specs.Config.{Lines, whole}

abbrev pub is_whole_of : Option Geometry → List Plan → Bool
is_whole_of None plans = false
is_whole_of (Some geometry) [] = false
is_whole_of (Some geometry) (plan ∷ plans) = true

abbrev pub is_whole : Lines → Bool
is_whole lines = is_whole_of lines.device lines.plans

-- what the lines configure; a configuration says besides how many knots a spline keeps
abbrev pub Makes : Lines → Config → Type 0
Makes lines config = whole config.knots lines ≡ Some config
