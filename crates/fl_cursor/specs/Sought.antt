-- The first of some rows that is to be given.
use Rattle.std.specs.Prelude.{ℕ, ◌+◌, List, [], ◌∷◌, if◌then◌else◌}
use Rattle.fl_model.specs.Query.{Cursor}
use Rattle.fl_model.specs.Row.{Row}
use Rattle.fl_cursor.specs.Asked.{is_left, is_last}
use Rattle.fl_cursor.specs.declared.search.Sought.{Sought}
use Rattle.fl_cursor.specs.declared.search.Sought.TheVariants.{Row as At, Behind, Nowhere}

-- it, where the first of these rows has this place; else where it may be
abbrev pub first_left : Cursor → List Row → ℕ → Sought
first_left cursor [] place = Behind
first_left cursor (row ∷ rows) place =
    if is_left cursor row then At place
    else if is_last cursor.top row.key then Nowhere
    else first_left cursor rows (place + 1)
