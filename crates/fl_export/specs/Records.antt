-- What a record's line tells of its blob.
use Rattle.std.specs.Prelude.{◌≡◌, ℕ, Bool, true, false, Result, Ok, Err, List}
use Rattle.fl_csv.specs.Text.{Blob}
use Rattle.fl_csv.specs.Text as csv
use Rattle.fl_model.specs.Query.{BlobState}
use Rattle.fl_export.specs.Text.{told_blob}
use Rattle.fl_export.specs.Writing.{NoneBad}
use Rattle.fl_export.specs.declared.fault.ExportFault.{ExportFault}
use Rattle.fl_export.specs.declared.record.BlobFound.{BlobFound}
use Rattle.fl_export.specs.declared.record.BlobFound.TheVariants.{Absent, Nothing, Whole, Gone}

-- what is told of a blob that was found so, with these bytes in the room
abbrev pub told_of_found : BlobFound → List ℕ → Blob
told_of_found Absent bytes = csv.Absent
told_of_found Nothing bytes = csv.Nothing
told_of_found Whole bytes = csv.Bytes bytes
told_of_found Gone bytes = csv.Gone

-- the field of a blob in a table that keeps variable data or doesn't
abbrev pub field_of : Bool → BlobState → Blob
field_of true state = told_blob state
field_of false state = csv.Absent

-- what is told of a blob that was found so is what is left of it; or no page was bad
abbrev pub FindsBlob : Bool → BlobState → List ℕ → Result BlobFound ExportFault → Type 0
FindsBlob blobs state bytes (Ok found) = told_of_found found bytes ≡ field_of blobs state
FindsBlob blobs state bytes (Err fault) = NoneBad fault
