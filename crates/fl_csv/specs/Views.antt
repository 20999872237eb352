-- The types of the code in the words of the texts.
use Rattle.std.specs.Prelude.{◌≡◌, ◌<◌, ◌⊎◌, ℕ, List, [], length, map, Option, Some, None, Result, Ok, Err, MatchResult}
use Rattle.std.specs.Borrow.{Bor}
use Rattle.arrayvec.specs.ArrayVec.{ArrayVec}
use Rattle.fl_model.specs.Record.{Record}
use Rattle.fl_csv.specs.Text as text
use Rattle.fl_csv.specs.declared.record.CsvBlob.{CsvBlob}
use Rattle.fl_csv.specs.declared.record.CsvBlob.TheVariants.{Absent, Nothing, Bytes, Empty, Gone}
use Rattle.fl_csv.specs.declared.record.CsvPut.{CsvPut}
use Rattle.fl_csv.specs.declared.record.CsvRefusal.{CsvRefusal}
use Rattle.fl_csv.specs.declared.record.CsvRefusal.TheVariants.{NoMemory}

abbrev pub blob_view : CsvBlob → text.Blob
blob_view Absent = text.Absent
blob_view Nothing = text.Nothing
blob_view (Bytes bytes) = text.Bytes bytes.now
blob_view Empty = text.Bytes []
blob_view Gone = text.Gone

abbrev pub put_view : CsvPut → Record
put_view put = record { key = put.key; values = put.values.items; blob = put.blob }

-- the result is what is meant, or memory ran out
abbrev pub Meant : Result CsvPut CsvRefusal → Result Record CsvRefusal → Type 0
Meant result meant = MatchResult result (λ put. meant ≡ Ok (put_view put)) (λ refusal. (refusal ≡ NoMemory) ⊎ (meant ≡ Err refusal))

-- the fields where they aren't more than any record has: a key, eight values and a blob
abbrev pub AreFields : Option (ArrayVec (Bor (List ℕ))) → List (List ℕ) → Type 0
AreFields None all = 10 < length all
AreFields (Some fields) all = map (λ field. field.now) fields.items ≡ all
