-- What is written of a record is read back as that record.
use Rattle.std.specs.Prelude.{◌≡◌, ◌≤◌, ◌<◌, ◌^◌, ℕ, ◌-◌, ℤ, pos, negsuc, Bool, true, false, Option, Some, None, Ok, List, length, map, ⊤}
use Rattle.std.specs.List.{AllByRecursion, fold}
use Rattle.csv.specs.Machine.{step}
use Rattle.csv.specs.Reading.{default_config, strip_bom}
use Rattle.csv.specs.declared.parser.State.{State}
use Rattle.csv.specs.declared.parser.State.TheVariants as st
use Rattle.fl_model.specs.Record.{Record}
use Rattle.fl_words.specs.Parts.{comma_parts}
use Rattle.fl_csv.specs.Text.{Blob, Absent, Nothing, Bytes, Entry, entry_fields, header_fields, joined, csv_text}
use Rattle.fl_csv.specs.Lines.{IsHeader, is_bare, is_open, line_fields, line_put, text_puts}
use Rattle.fl_csv.specs.declared.record.GoneBlobs.{GoneBlobs}

-- a number of 64 bits with a sign
abbrev pub IsValue : ℤ → Type 0
IsValue (pos n) = n ≤ 2 ^ 63 - 1
IsValue (negsuc n) = n ≤ 2 ^ 63 - 1

-- a blob of bytes, and none where there are no blobs
abbrev pub IsBlob : Bool → Option (List ℕ) → Type 0
IsBlob blobs None = ⊤
IsBlob true (Some bytes) = AllByRecursion (λ byte. byte < 256) bytes
IsBlob false (Some bytes) = ⊥

-- a record with a value for each column
pub record Fits (columns : ℕ) (blobs : Bool) (entry : Record) : Type 0 where
  pub key : entry.key < 2 ^ 64
  pub count : length entry.values ≡ columns
  pub values : AllByRecursion IsValue entry.values
  pub blob : IsBlob blobs entry.blob

abbrev pub blob_told : Bool → Option (List ℕ) → Blob
blob_told false blob = Absent
blob_told true None = Nothing
blob_told true (Some bytes) = Bytes bytes

-- the record as it is written
abbrev pub entry_of : Bool → Record → Entry
entry_of blobs stored = record { key = stored.key; values = stored.values; blob = blob_told blobs stored.blob }

-- the line of a record that fits, without its newline, means that record, whatever becomes of blobs that are gone
abbrev pub LinesReadBack : Type 0
LinesReadBack = (gone : GoneBlobs) (columns : ℕ) (blobs : Bool) (stored : Record) → Fits columns blobs stored
    → line_put gone columns blobs (joined (entry_fields (entry_of blobs stored))) ≡ Ok stored

-- the line of the names is read as such
abbrev pub HeadersReadBack : Type 0
HeadersReadBack = (columns : ℕ) (blobs : Bool) → columns ≤ 8 → IsHeader columns blobs (joined (header_fields columns blobs))

-- the text of records that fit means those records, in turn
abbrev pub TextsReadBack : Type 0
TextsReadBack = (columns : ℕ) (blobs : Bool) (stored : List Record) → columns ≤ 8 → AllByRecursion (Fits columns blobs) stored
    → text_puts columns blobs (csv_text columns blobs (map (entry_of blobs) stored)) ≡ map Ok stored

abbrev pub is_quoted : State → Bool
is_quoted st.InQuoted = true
is_quoted st.StartRecord = false
is_quoted st.StartField = false
is_quoted st.InField = false
is_quoted st.AfterQuote = false
is_quoted st.InEscape = false
is_quoted st.InComment = false
is_quoted st.AfterCr = false

-- a line ends between quotes just where the machine of the crate csv does, which goes on from one record to the next
abbrev pub QuotesAsCsv : Type 0
QuotesAsCsv = (line : List ℕ) → is_open line ≡ is_quoted (fold (λ state byte. (step default_config state byte).0) st.StartRecord (strip_bom line))

-- what stands between the commas of a bare line is the one record that the crate csv reads
abbrev pub BareLines : Type 0
BareLines = (line : List ℕ) → is_bare line ≡ true → line_fields line ≡ Some (comma_parts line)
