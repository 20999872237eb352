-- Where the pages end that may have a row to be given.
use Rattle.std.specs.Prelude.{◌≡◌, ℕ, ◌<◌, ◌≤◌, false, Option, Some, None}
use Rattle.fl_frame.specs.Contents.{Contents}
use Rattle.fl_table.specs.Look.{oldest_in}
use Rattle.fl_table.specs.Memory.{next_in}
use Rattle.fl_table.specs.declared.table.Table.{Table}
use Rattle.fl_cursor.specs.Cursor.{IsStanding}
use Rattle.fl_cursor.specs.Listed.{rows_on}
use Rattle.fl_cursor.specs.Reads.{begins_by}

-- no kept page from this number on begins by the last key that may be given, over any flash that stands for the table
abbrev pub EndsPages : {KNOTS SLOTS : ℕ} → Table KNOTS SLOTS → Option ℕ → ℕ → Type 0
EndsPages t None end = end ≡ next_in t
EndsPages t (Some top) end =
    (end ≤ next_in t)
    × ((contents : Contents) → IsStanding t contents → (n : ℕ) → oldest_in t ≤ n → end ≤ n → n < next_in t → begins_by top (rows_on t contents n) ≡ false)
