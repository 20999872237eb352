-- What clauses see of a learned index.
use Rattle.std.specs.Prelude.{ℕ, ◌+◌, ◌*◌, min, Bool, true, ◌&&◌, nat_lt, option_map, unwrap_or, List, if◌then◌else◌}
use Rattle.fl_base.specs.Bits.{bits}
use Rattle.fl_model.specs.Spline.{is_covered, estimate}
use Rattle.fl_radix.specs.Radix.{shift_of}
use Rattle.fl_spline.specs.Points.{last_of}
use Rattle.fl_spline.specs.Spline.{SplineOf, kept}
use Rattle.fl_find.specs.declared.index.KeyIndex.{KeyIndex}

-- how many pages its lines may be off
abbrev pub error_in : {KNOTS SLOTS : ℕ} → KeyIndex KNOTS SLOTS → ℕ
error_in index = index.error

-- the knots that it keeps
abbrev pub knots_in : {KNOTS SLOTS : ℕ} → KeyIndex KNOTS SLOTS → List (ℕ × ℕ)
knots_in index = kept index.spline

-- how wide its slots are
abbrev pub shift_in : {KNOTS SLOTS : ℕ} → KeyIndex KNOTS SLOTS → ℕ
shift_in index = shift_of index.radix

-- the index, with this error, of these points
abbrev pub IndexOf : {KNOTS SLOTS : ℕ} → ℕ → List (ℕ × ℕ) → KeyIndex KNOTS SLOTS → Type 0
IndexOf error points index = SplineOf error points index.spline

-- a point comes after the last of a list, if there is one
abbrev pub is_further : List (ℕ × ℕ) → ℕ × ℕ → Bool
is_further points p = unwrap_or (option_map (λ end. nat_lt end.0 p.0 && nat_lt end.1 p.1) (last_of points)) true

-- the number after the last page that may be that of a covered key
abbrev pub window_end : {KNOTS SLOTS : ℕ} → KeyIndex KNOTS SLOTS → ℕ → ℕ → ℕ
window_end index next key = min (estimate (knots_in index) key + error_in index + 1) next

-- the greatest number of reads of a lookup among so many pages, of which some are void
abbrev pub most_reads : {KNOTS SLOTS : ℕ} → KeyIndex KNOTS SLOTS → ℕ → ℕ → ℕ → ℕ
most_reads index pages voids key =
    if is_covered (knots_in index) key then 2 * error_in index + 2 + voids else bits pages + 1 + voids
