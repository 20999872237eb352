-- The rows of a table, by what it holds in memory and the bytes of a flash.
use Rattle.std.specs.Prelude.{ℕ, zero, suc, ◌+◌, ◌-◌, ◌==◌, List, [], ◌++◌, if◌then◌else◌}
use Rattle.fl_flash.specs.Places.{page_of}
use Rattle.fl_model.specs.Row.{Row}
use Rattle.fl_frame.specs.Contents.{Contents}
use Rattle.fl_page.specs.Page.{rows_in}
use Rattle.fl_table.specs.Look.{layout_in, oldest_in, rows_noted, buffered_rows, place_of}
use Rattle.fl_table.specs.Memory.{next_in}
use Rattle.fl_table.specs.declared.table.Table.{Table}

-- the bytes at the place of a kept page
abbrev pub bytes_at : {KNOTS SLOTS : ℕ} → Table KNOTS SLOTS → Contents → ℕ → List ℕ
bytes_at t contents number = page_of contents.bytes contents.start contents.geometry.page (place_of t number)

-- its rows; a void page has none, whatever stands in it
abbrev pub rows_on : {KNOTS SLOTS : ℕ} → Table KNOTS SLOTS → Contents → ℕ → List Row
rows_on t contents number = if rows_noted t number == 0 then [] else rows_in (layout_in t) (bytes_at t contents number)

-- the rows of so many pages from this one on
abbrev pub rows_over : {KNOTS SLOTS : ℕ} → Table KNOTS SLOTS → Contents → ℕ → ℕ → List Row
rows_over t contents number zero = []
rows_over t contents number (suc n) = rows_on t contents number ++ rows_over t contents (number + 1) n

-- the rows of all kept pages from this one on, and the pending ones
abbrev pub rows_from : {KNOTS SLOTS : ℕ} → Table KNOTS SLOTS → Contents → ℕ → List Row
rows_from t contents number = rows_over t contents number (next_in t - number) ++ buffered_rows t

-- all rows
abbrev pub rows_of : {KNOTS SLOTS : ℕ} → Table KNOTS SLOTS → Contents → List Row
rows_of t contents = rows_from t contents (oldest_in t)
