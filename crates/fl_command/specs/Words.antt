-- The words of the command line that name a job.
use Rattle.std.specs.Prelude.{ℕ, ◌&&◌, Option, Some, None, Result, Ok, Err, List, [], ◌∷◌, codes, if◌then◌else◌}
use Rattle.fl_csv.specs.declared.record.GoneBlobs.TheVariants.{Refused, LeftOut}
use Rattle.fl_map.specs.declared.drawing.Drawing.TheVariants.{Text, Svg}
use Rattle.fl_model.specs.Record.{bytes_equal}
use Rattle.fl_queries.specs.Keys.{all_keys}
use Rattle.fl_words.specs.Grammar.{LineFault, is_name, number}
use Rattle.fl_ends.specs.Words.{is_image_name}
use Rattle.fl_command.specs.declared.words.ToolJob.{ToolJob}
use Rattle.fl_command.specs.declared.words.ToolJob.TheVariants.{Check, CheckAll, Export, Import, Salvage, Map}

-- an export of the keys from one number to another
abbrev pub export_named : List ℕ → Result ℕ LineFault → Result ℕ LineFault → Option ToolJob
export_named name (Ok low) (Ok high) = Some (Export name (record { low = low; high = high }))
export_named name (Ok low) (Err fault) = None
export_named name (Err fault) high = None

-- a check, or a map in letters
abbrev pub alone_named : List ℕ → Option ToolJob
alone_named word = if bytes_equal word (codes "check") then Some Check else if bytes_equal word (codes "map") then Some (Map Text) else None

-- an import into the table with this name, the export of all that it has, or its salvage
abbrev pub table_named : List ℕ → List ℕ → Option ToolJob
table_named word name =
    if bytes_equal word (codes "import") then Some (Import name Refused) else if bytes_equal word (codes "export") then Some (Export name all_keys)
    else if bytes_equal word (codes "salvage") then Some (Salvage name) else None

-- .. or a check of all tables, whose third word is `all`, or a map as a picture
abbrev pub short_named : List ℕ → List ℕ → Option ToolJob
short_named word last =
    if bytes_equal word (codes "check") then (if bytes_equal last (codes "all") then Some CheckAll else None)
    else if bytes_equal word (codes "map") then (if bytes_equal last (codes "svg") then Some (Map Svg) else None)
    else if is_name last then table_named word last else None

-- the job that the words name: `check`, the name of an image, and `all` for all its tables; `map`, the name of an image, and `svg`
-- for a picture; `import`, the name of an image, that of a table, and `gone` where blobs that are gone are left out; `salvage`, the
-- name of an image and that of a table; or `export`, the name of an image, that of a table, and two numbers, which the range of
-- all keys stands for
abbrev pub job_named : List (List ℕ) → Option ToolJob
job_named (word ∷ image ∷ []) = if is_image_name image then alone_named word else None
job_named (word ∷ image ∷ last ∷ []) = if is_image_name image then short_named word last else None
job_named (word ∷ image ∷ name ∷ last ∷ []) =
    if bytes_equal word (codes "import") && is_image_name image && is_name name && bytes_equal last (codes "gone") then Some (Import name LeftOut) else None
job_named (word ∷ image ∷ name ∷ low ∷ high ∷ []) =
    if bytes_equal word (codes "export") && is_image_name image && is_name name then export_named name (number low) (number high) else None
job_named words = None
