-- The text of records: fields joined by commas, a line for each record, below a line of the names.
use Rattle.std.specs.Prelude.{ℕ, zero, suc, ◌+◌, ℤ, Bool, List, [], ◌∷◌, ◌++◌, map, codes, decimal, if◌then◌else◌}
use Rattle.std.specs.List.{flat_map}
use Rattle.std.specs.Fmt.{signed_decimal}
use Rattle.fl_words.specs.Reply.{hex_text}

-- what a record's line tells of its blob: there is no field for it, the record has none, its bytes, or that they are gone
pub data Blob : Type 0 where
  Absent : Blob
  Nothing : Blob
  Bytes : (bytes : List ℕ) → Blob
  Gone : Blob

-- a record that is written
pub record Entry : Type 0 where
  pub key : ℕ
  pub values : List ℤ
  pub blob : Blob

-- a dash for no bytes, else two hexadecimal digits for each
abbrev pub bytes_field : List ℕ → List ℕ
bytes_field [] = codes "-"
bytes_field (byte ∷ bytes) = hex_text (byte ∷ bytes)

abbrev pub blob_fields : Blob → List (List ℕ)
blob_fields Absent = []
blob_fields Nothing = [] ∷ []
blob_fields (Bytes bytes) = bytes_field bytes ∷ []
blob_fields Gone = codes "gone" ∷ []

-- the blob's field behind its comma, where there is one: what isn't its digits, and the digits
abbrev pub blob_mark : Blob → List ℕ
blob_mark Absent = []
blob_mark Nothing = codes ","
blob_mark (Bytes []) = codes ",-"
blob_mark (Bytes (byte ∷ bytes)) = codes ","
blob_mark Gone = codes ",gone"

abbrev pub blob_digits : Blob → List ℕ
blob_digits Absent = []
blob_digits Nothing = []
blob_digits (Bytes bytes) = hex_text bytes
blob_digits Gone = []

-- the key, the values and the blob
abbrev pub entry_fields : Entry → List (List ℕ)
entry_fields entry = decimal entry.key ∷ (map signed_decimal entry.values ++ blob_fields entry.blob)

-- the names of so many columns, from one on: c1, c2 and so on
abbrev pub column_names : ℕ → ℕ → List (List ℕ)
column_names first zero = []
column_names first (suc count) = (codes "c" ++ decimal first) ∷ column_names (first + 1) count

abbrev pub header_fields : ℕ → Bool → List (List ℕ)
header_fields columns blobs = codes "key" ∷ (column_names 1 columns ++ (if blobs then codes "blob" ∷ [] else []))

-- fields joined by commas
abbrev pub joined : List (List ℕ) → List ℕ
joined [] = []
joined (field ∷ fields) = field ++ flat_map (λ f. 44 ∷ f) fields

abbrev pub line_text : List (List ℕ) → List ℕ
line_text fields = joined fields ++ 10 ∷ []

abbrev pub header_text : ℕ → Bool → List ℕ
header_text columns blobs = line_text (header_fields columns blobs)

abbrev pub entry_text : Entry → List ℕ
entry_text entry = line_text (entry_fields entry)

-- the text of a table's records
abbrev pub csv_text : ℕ → Bool → List Entry → List ℕ
csv_text columns blobs entries = header_text columns blobs ++ flat_map entry_text entries
