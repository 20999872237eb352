-- The line of a record that fits means that record.
use Rattle.std.proofs.Common.{◌≡◌, ℕ, ◌+◌, ◌<◌, suc, ℤ, pos, negsuc, Bool, true, false, Option, Some, None, Ok, Err, List, [], ◌∷◌, ◌++◌, length, take, get_or, map, refl, sym, ◌∙◌, ap, arith, decimal, length-append, add-zero}
use Rattle.std.specs.Prelude.{FitsSigned, if◌then◌else◌}
use Rattle.std.specs.Int.{w64}
use Rattle.std.specs.List.{AllByRecursion}
use Rattle.std.specs.Fmt.{signed_decimal}
use Rattle.std.specs.Str.Parse.{AllDigits}
use Rattle.std.proofs.lemmas.Bool.{eq-eqb}
use Rattle.std.proofs.lemmas.Fmt.{decimal_is_IsNumeral}
use Rattle.std.proofs.lemmas.List.{length-map, get_or-append-add}
use Rattle.std.proofs.lemmas.Str.Parse.{digit_from_value}
use Rattle.std.proofs.Math.Seq.{take-append_seam}
use Rattle.fl_model.specs.Record.{Record}
use Rattle.fl_model.proofs.Lists.{each-weaker}
use Rattle.fl_script.proofs.Numbers.{decimal-number}
use Rattle.fl_csv.specs.Text.{blob_fields, entry_fields, joined}
use Rattle.fl_csv.specs.Lines.{blob_in, fields_put, line_fields, record_put, values_from, wanted_fields}
use Rattle.fl_csv.specs.Laws.{Fits, IsBlob, IsValue, LinesReadBack, blob_told, entry_of}
use Rattle.fl_csv.specs.declared.record.CsvRefusal.TheVariants as refusal
use Rattle.fl_csv.specs.declared.record.GoneBlobs.{GoneBlobs}
use Rattle.fl_csv.specs.declared.record.GoneBlobs.TheVariants.{Refused, LeftOut}
use Rattle.fl_csv.proofs.Blobs.{blob-written, never-left}
use Rattle.fl_csv.proofs.Numbers.{signed-written}
use Rattle.fl_csv.proofs.Plain.{ArePlain, IsPlain, blob-plain, decimal-plain, values-plain}
use Rattle.fl_csv.proofs.BareLines.{only-joined}

pub as-fits : (value : ℤ) → IsValue value → FitsSigned w64 value
as-fits (pos n) h = record { sfits = omega (arith, h) }
as-fits (negsuc n) h = record { sfits = omega (arith, h) }

pub all-fit : (values : List ℤ) → AllByRecursion IsValue values → AllByRecursion (FitsSigned w64) values
all-fit values h = each-weaker IsValue (FitsSigned w64) as-fits values h

-- a word of digits and fields behind it
only-digits : (word : List ℕ) (rest : List (List ℕ)) → 0 < length word → AllDigits 10 word → IsPlain word → ArePlain rest
    → line_fields (joined (word ∷ rest)) ≡ Some (word ∷ rest)
only-digits [] rest some digits h hs = absurd (omega arith)
only-digits (byte ∷ bytes) rest some digits h hs = only-joined byte bytes rest (omega (arith, (digit_from_value byte digits.0).1)) h hs

values-back : (place : ℕ) (values : List ℤ) → AllByRecursion IsValue values → values_from place (map signed_decimal values) ≡ Ok values
values-back place [] h = refl
values-back place (value ∷ values) h = rw (signed-written value h.0, values-back (place + 1) values h.1) refl

-- the field of the blob
blob-count : (blobs : Bool) (blob : Option (List ℕ)) → IsBlob blobs blob → (columns : ℕ) → suc (columns + length (blob_fields (blob_told blobs blob))) ≡ wanted_fields columns blobs
blob-count true None h columns = omega arith
blob-count true (Some bytes) h columns = omega arith
blob-count false blob h columns = omega arith

blob-back : (gone : GoneBlobs) (blobs : Bool) (blob : Option (List ℕ)) → IsBlob blobs blob → (place : ℕ)
    → (if blobs then blob_in gone place (get_or (blob_fields (blob_told blobs blob)) 0 []) else Ok None) ≡ Ok blob
blob-back Refused true None h place = refl
blob-back LeftOut true None h place = refl
blob-back gone true (Some bytes) h place = rw (never-left gone bytes h) (blob-written place bytes h)
blob-back gone false None h place = refl
blob-back gone false (Some bytes) h place = absurd h

put-back : (gone : GoneBlobs) (columns : ℕ) (blobs : Bool) (stored : Record) → Fits columns blobs stored → fields_put gone columns blobs (entry_fields (entry_of blobs stored)) ≡ Ok stored
put-back gone columns blobs stored fits =
    let words = map signed_decimal stored.values in
    let last = blob_fields (blob_told blobs stored.blob) in
    let count : length words ≡ columns = length-map stored.values signed_decimal ∙ fits.count in
    let key = decimal-number stored.key (omega (arith, fits.key)) in
    let front : take columns (words ++ last) ≡ words = rw (← count) (take-append_seam words last) in
    let values = values-back 2 stored.values fits.values in
    let at : get_or (words ++ last) columns [] ≡ get_or last 0 [] = rw (← count) (ap (λ n. get_or (words ++ last) n []) (sym (add-zero (length words))) ∙ get_or-append-add words last 0 []) in
    let next : columns + 1 ≡ suc columns = omega arith in
    let behind : get_or (decimal stored.key ∷ (words ++ last)) (columns + 1) [] ≡ get_or last 0 [] = rw next at in
    let blob = blob-back gone blobs stored.blob fits.blob (columns + 2) in
    rw (key, front, values, behind, blob) refl

pub line-back : LinesReadBack
line-back gone columns blobs stored fits =
    let words = map signed_decimal stored.values in
    let last = blob_fields (blob_told blobs stored.blob) in
    let numeral = decimal_is_IsNumeral stored.key fits.key in
    let only = only-digits (decimal stored.key) (words ++ last) numeral.0.0 numeral.0.1 (decimal-plain stored.key fits.key)
    (values-plain stored.values last (all-fit stored.values fits.values) (blob-plain (blob_told blobs stored.blob))) in
    let count : length (decimal stored.key ∷ (words ++ last)) ≡ wanted_fields columns blobs =
    ap suc (length-append words last ∙ ap (λ n. n + length last) (length-map stored.values signed_decimal ∙ fits.count)) ∙ blob-count blobs stored.blob fits.blob columns in
    ap (record_put gone columns blobs) only
    ∙ ap (λ t. if t then fields_put gone columns blobs (decimal stored.key ∷ (words ++ last)) else Err (refusal.Fields (wanted_fields columns blobs))) (eq-eqb _ _ count)
    ∙ put-back gone columns blobs stored fits
