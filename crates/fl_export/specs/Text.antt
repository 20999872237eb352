-- The text of a table's records.
use Rattle.std.specs.Prelude.{◌≡◌, ℕ, None, Some, List, [], ◌∷◌, length, map, slice_get, if◌then◌else◌}
use Rattle.fl_base.specs.declared.types.KeyRange.{KeyRange}
use Rattle.fl_csv.specs.Text as csv
use Rattle.fl_csv.specs.Text.{Blob, Absent, Nothing, Bytes, Gone, csv_text}
use Rattle.fl_model.specs.Query.{BlobState, Without, Lost, Stands, blob_of, selected}
use Rattle.fl_model.specs.Record.{Plan, has_var}
use Rattle.fl_model.specs.Table.{Table, Entry}

-- what is left of a blob, as its field tells it
abbrev pub told_blob : BlobState → Blob
told_blob Without = Nothing
told_blob Lost = Gone
told_blob (Stands bytes) = Bytes bytes

-- a record of a table as its line tells it: there is a field for a blob where the table keeps variable data
abbrev pub said_of : Plan → Table → Entry → csv.Entry
said_of plan table entry = record {
  key = entry.kept.key;
  values = entry.kept.values;
  blob = if has_var plan then told_blob (blob_of table entry) else Absent;
}

-- the text of the records of a table whose keys are in the range, below the line of the names
abbrev pub table_text : Plan → Table → KeyRange → List ℕ
table_text plan table range = csv_text (length plan.columns) (has_var plan) (map (said_of plan table) (selected range None table.entries))

-- each of these is one of those
abbrev pub AreAmong : {X : Type 0} → List X → List X → Type 0
AreAmong all [] = Unit {0}
AreAmong all (x ∷ xs) = ((i : ℕ) × (slice_get all i ≡ Some x)) × AreAmong all xs
