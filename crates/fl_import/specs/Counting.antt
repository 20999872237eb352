-- How far the lines of an import are taken.
use Rattle.std.specs.Prelude.{ℕ, ◌+◌, ◌-◌, Bool, true, false, Result, List, [], ◌∷◌, ◌++◌, length, drop, codes, decimal, if◌then◌else◌}
use Rattle.fl_csv.specs.declared.record.GoneBlobs.{GoneBlobs}
use Rattle.fl_csv.specs.declared.record.GoneBlobs.TheVariants as lost
use Rattle.fl_csv.specs.declared.record.CsvRefusal.{CsvRefusal}
use Rattle.fl_import.specs.declared.job_end.LinesTaken.{LinesTaken}
use Rattle.fl_model.specs.Record.{Record, Plan, has_var}
use Rattle.fl_model.specs.Table.{Table}
use Rattle.fl_import.specs.Lines.{lacks, meaning, meanings}
use Rattle.fl_import.specs.Puts.{is_put, after_put, put_count}
use Rattle.fl_import.specs.declared.line_end.LineEnd.{LineEnd}
use Rattle.fl_import.specs.declared.line_end.LineEnd.TheVariants.{Refused, Put, PutWithoutBlob}

-- ---- what becomes of a line

-- its record was put, without its blob or with it
abbrev pub put_end : Bool → LineEnd
put_end true = PutWithoutBlob
put_end false = Put

-- by what it means, and whether a blob is left out of that
abbrev pub end_of : Plan → Table → Result Record CsvRefusal → Bool → LineEnd
end_of plan table put lacking = if is_put plan table put then put_end lacking else Refused

abbrev pub after_end : LinesTaken → LineEnd → LinesTaken
after_end taken Refused = record { line = taken.line + 1; rows = taken.rows; gone = taken.gone }
after_end taken Put = record { line = taken.line + 1; rows = taken.rows + 1; gone = taken.gone }
after_end taken PutWithoutBlob = record { line = taken.line + 1; rows = taken.rows + 1; gone = taken.gone + 1 }

-- ---- how many are put

-- how many of these lines are put without their blobs
abbrev pub gone_count : GoneBlobs → Plan → Table → List (List ℕ) → ℕ
gone_count gone plan table [] = 0
gone_count gone plan table (line ∷ lines) =
    let put = meaning gone (length plan.columns) (has_var plan) line in
    (if is_put plan table put then (if lacks gone (length plan.columns) (has_var plan) line then 1 else 0) else 0) + gone_count gone plan (after_put plan table put) lines

-- how far these lines were taken, of which the first is that of the names
abbrev pub counts_of : GoneBlobs → Plan → Table → List (List ℕ) → LinesTaken
counts_of gone plan table taken = record {
  line = length taken;
  rows = put_count plan table (meanings gone (length plan.columns) (has_var plan) taken);
  gone = gone_count gone plan table (drop 1 taken);
}

-- ---- the last line that is written

-- how many were put without their blobs, where these are left out
abbrev pub gone_text : GoneBlobs → ℕ → List ℕ
gone_text lost.Refused count = []
gone_text lost.LeftOut count = codes " gone " ++ decimal count

-- how many were put, and how many of the lines below the first one were refused
abbrev pub count_text : GoneBlobs → LinesTaken → List ℕ
count_text gone counts = codes "imported " ++ decimal counts.rows ++ codes " refused " ++ decimal (counts.line - 1 - counts.rows) ++ gone_text gone counts.gone ++ 10 ∷ []
