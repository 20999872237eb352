-- Records that are put into a table, one after another.
use Rattle.std.specs.Prelude.{ℕ, ◌+◌, Bool, false, not, is_some, Result, Ok, Err, List, [], ◌∷◌, if◌then◌else◌}
use Rattle.fl_csv.specs.declared.record.CsvRefusal.{CsvRefusal}
use Rattle.fl_model.specs.Record.{Record, Plan}
use Rattle.fl_model.specs.Table.{Table, refusal_of, put_record}

-- the record of a line joins the table, where the line is one and the table doesn't refuse it
abbrev pub is_put : Plan → Table → Result Record CsvRefusal → Bool
is_put plan table (Err refusal) = false
is_put plan table (Ok item) = not (is_some (refusal_of plan table item))

abbrev pub after_put : Plan → Table → Result Record CsvRefusal → Table
after_put plan table (Err refusal) = table
after_put plan table (Ok item) = if is_some (refusal_of plan table item) then table else put_record plan item table

-- .. and those of several lines, in turn
abbrev pub after_puts : Plan → Table → List (Result Record CsvRefusal) → Table
after_puts plan table [] = table
after_puts plan table (put ∷ puts) = after_puts plan (after_put plan table put) puts

-- how many of them join it
abbrev pub put_count : Plan → Table → List (Result Record CsvRefusal) → ℕ
put_count plan table [] = 0
put_count plan table (put ∷ puts) = (if is_put plan table put then 1 else 0) + put_count plan (after_put plan table put) puts
