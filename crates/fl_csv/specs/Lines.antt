-- What a line means: the record that it is, or why it is none.
use Rattle.std.specs.Prelude.{◌≡◌, ℕ, ◌+◌, ℤ, Bool, true, false, not, ◌==◌, ◌&&◌, ◌||◌, Option, Some, None, Result, Ok, Err, List, [], ◌∷◌, length, take, drop, get_or, map, codes, if◌then◌else◌}
use Rattle.std.specs.List.{fold, list_all}
use Rattle.fl_model.specs.Record.{Record, bytes_equal}
use Rattle.fl_words.specs.Grammar as grammar
use Rattle.csv.specs.Reading.{default_config, records, strip_bom}
use Rattle.fl_csv.specs.declared.quotes.Place.{Place}
use Rattle.fl_csv.specs.declared.quotes.Place.TheVariants.{Edge, Bare, Quoted}
use Rattle.fl_csv.specs.Text.{header_fields}
use Rattle.fl_csv.specs.declared.record.GoneBlobs.{GoneBlobs}
use Rattle.fl_csv.specs.declared.record.GoneBlobs.TheVariants.{Refused, LeftOut}
use Rattle.fl_csv.specs.declared.record.CsvRefusal.{CsvRefusal}
use Rattle.fl_csv.specs.declared.record.CsvRefusal.TheVariants.{Csv, Fields, Number}

-- the records that the crate csv reads from a text without a header row, whose records may differ in their number of fields
abbrev pub records_of : List ℕ → List (List (List ℕ))
records_of text = records default_config (strip_bom text)

-- outside quotes a field begins behind a comma, a carriage return and a newline
abbrev pub place_outside : ℕ → Place
place_outside byte = if (byte == 44) || (byte == 13) || (byte == 10) then Edge else Bare

-- A quote opens where it is the first byte of a field, and right behind a closing quote, so that a doubled quote is content.
-- Between quotes it closes. Elsewhere it is a byte like any other, as are those behind a closing quote.
abbrev pub place_after : Place → ℕ → Place
place_after Edge byte = if byte == 34 then Quoted else place_outside byte
place_after Bare byte = place_outside byte
place_after Quoted byte = if byte == 34 then Edge else Quoted

abbrev pub is_between : Place → Bool
is_between Edge = false
is_between Bare = false
is_between Quoted = true

-- a line that ends between quotes
abbrev pub is_open : List ℕ → Bool
is_open line = is_between (fold place_after Edge (strip_bom line))

-- a byte that is neither a quote nor ends a record
abbrev pub stands_alone : ℕ → Bool
stands_alone byte = not ((byte == 34) || (byte == 13) || (byte == 10))

-- a line whose fields are what stands between its commas: each of its bytes stands alone, it isn't empty, and it doesn't
-- begin with 239, the first byte of a byte order mark
abbrev pub is_bare : List ℕ → Bool
is_bare [] = false
is_bare (byte ∷ bytes) = not (byte == 239) && list_all stands_alone (byte ∷ bytes)

infixl 10 ◌>>=◌
abbrev pub ◌>>=◌ : {A B : Type 0} → Result A CsvRefusal → (A → Result B CsvRefusal) → Result B CsvRefusal
(Ok x) >>= f = f x
(Err e) >>= f = Err e

-- the field at a place, from 1, has its form or not
abbrev pub formed : {A : Type 0} → ℕ → Result A grammar.LineFault → Result A CsvRefusal
formed place (Ok x) = Ok x
formed place (Err fault) = Err (Number place)

abbrev pub formed_blob : ℕ → Option (List ℕ) → Result (Option (List ℕ)) CsvRefusal
formed_blob place None = Err (Number place)
formed_blob place (Some bytes) = Ok (Some bytes)

-- signed numbers from a place on
abbrev pub values_from : ℕ → List (List ℕ) → Result (List ℤ) CsvRefusal
values_from place [] = Ok []
values_from place (field ∷ fields) = do
  value ← formed place (grammar.signed field)
  values ← values_from (place + 1) fields
  Ok (value ∷ values)

-- no blob, the empty one for a dash, or an even number of hexadecimal digits
abbrev pub blob_of : ℕ → List ℕ → Result (Option (List ℕ)) CsvRefusal
blob_of place [] = Ok None
blob_of place (byte ∷ bytes) = formed_blob place (grammar.blob_word (byte ∷ bytes))

-- a field says that the blob is gone, where such a blob is left out
abbrev pub is_left_out : GoneBlobs → List ℕ → Bool
is_left_out Refused field = false
is_left_out LeftOut field = bytes_equal field (codes "gone")

-- .. and then there is none
abbrev pub blob_in : GoneBlobs → ℕ → List ℕ → Result (Option (List ℕ)) CsvRefusal
blob_in gone place field = if is_left_out gone field then Ok None else blob_of place field

-- the first field is the key, the next ones are the values, and the last is the blob where there are blobs; the first
-- field that hasn't its form is told
abbrev pub fields_put : GoneBlobs → ℕ → Bool → List (List ℕ) → Result Record CsvRefusal
fields_put gone columns blobs fields = do
  key ← formed 1 (grammar.number (get_or fields 0 []))
  values ← values_from 2 (take columns (drop 1 fields))
  blob ← if blobs then blob_in gone (columns + 2) (get_or fields (columns + 1) []) else Ok None
  Ok (record { key = key; values = values; blob = blob })

-- the record of these fields is one whose blob is left out
abbrev pub lack_blob : GoneBlobs → ℕ → Bool → List (List ℕ) → Bool
lack_blob gone columns blobs fields = if blobs then is_left_out gone (get_or fields (columns + 1) []) else false

abbrev pub wanted_fields : ℕ → Bool → ℕ
wanted_fields columns blobs = if blobs then columns + 2 else columns + 1

-- the only record of a text
abbrev pub only_record : List (List (List ℕ)) → Option (List (List ℕ))
only_record (fields ∷ []) = Some fields
only_record other = None

-- the only record of a line, whose quotes are all closed
abbrev pub line_fields : List ℕ → Option (List (List ℕ))
line_fields line = if is_open line then None else only_record (records_of line)

abbrev pub record_put : GoneBlobs → ℕ → Bool → Option (List (List ℕ)) → Result Record CsvRefusal
record_put gone columns blobs None = Err Csv
record_put gone columns blobs (Some fields) =
    if length fields == wanted_fields columns blobs then fields_put gone columns blobs fields else Err (Fields (wanted_fields columns blobs))

abbrev pub lacks_in : GoneBlobs → ℕ → Bool → Option (List (List ℕ)) → Bool
lacks_in gone columns blobs None = false
lacks_in gone columns blobs (Some fields) = lack_blob gone columns blobs fields

-- what a line without its newline means
abbrev pub line_put : GoneBlobs → ℕ → Bool → List ℕ → Result Record CsvRefusal
line_put gone columns blobs line = record_put gone columns blobs (line_fields line)

-- .. and whether a blob is left out of the record that it is
abbrev pub lacks_blob : GoneBlobs → ℕ → Bool → List ℕ → Bool
lacks_blob gone columns blobs line = lacks_in gone columns blobs (line_fields line)

-- what the lines of a text below the first one mean, in turn
abbrev pub text_puts : ℕ → Bool → List ℕ → List (Result Record CsvRefusal)
text_puts columns blobs text =
    map (λ line. line_put Refused columns blobs (grammar.without_return line)) (drop 1 (grammar.lines_of text))

-- a line is that of the names: these are its fields
abbrev pub IsHeader : ℕ → Bool → List ℕ → Type 0
IsHeader columns blobs line = line_fields line ≡ Some (header_fields columns blobs)
