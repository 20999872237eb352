-- What a row's line tells of its blob.
use Rattle.std.specs.Prelude.{ℕ, List, []}
use Rattle.fl_csv.specs.Text.{Blob}
use Rattle.fl_csv.specs.Text as csv
use Rattle.fl_salvage.specs.declared.line.BlobFound.{BlobFound}
use Rattle.fl_salvage.specs.declared.line.BlobFound.TheVariants.{Absent, Nothing, Empty, Whole, Gone}

-- what is told of a blob that was found so, with these bytes in the room
abbrev pub told_of_found : BlobFound → List ℕ → Blob
told_of_found Absent bytes = csv.Absent
told_of_found Nothing bytes = csv.Nothing
told_of_found Empty bytes = csv.Bytes []
told_of_found Whole bytes = csv.Bytes bytes
told_of_found Gone bytes = csv.Gone
