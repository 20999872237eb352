-- The text of records that fit means those records.
use Rattle.std.proofs.Common.{◌≡◌, ℕ, ◌+◌, ◌≤◌, zero, suc, Bool, true, false, eqb, List, [], ◌∷◌, ◌++◌, drop, map, Ok, codes, refl, ◌∙◌, ap, arith, append_assoc, if◌then◌else◌}
use Rattle.std.specs.Prelude.{All}
use Rattle.std.specs.List.{AllByRecursion, flat_map, slice_split}
use Rattle.std.proofs.lemmas.Bool.Decides.{nat_tests}
use Rattle.std.proofs.lemmas.List.Elements.{All-cons, All-nil}
use Rattle.std.proofs.lemmas.List.Splits.{slice_split_at, length-slice_split}
use Rattle.fl_model.specs.Record.{Record}
use Rattle.fl_model.proofs.Lists.{each-append, each-weaker}
use Rattle.fl_words.specs.Grammar.{lines_of, no_empty_last, without_return}
use Rattle.fl_words.proofs.Lines.{no_empty-last}
use Rattle.fl_csv.specs.Text.{column_names, entry_fields, entry_text, header_fields, joined, blob_fields}
use Rattle.fl_csv.specs.Lines.{line_put}
use Rattle.fl_csv.specs.Laws.{Fits, HeadersReadBack, TextsReadBack, blob_told, entry_of}
use Rattle.fl_csv.specs.declared.record.GoneBlobs.TheVariants.{Refused}
use Rattle.fl_csv.proofs.Plain.{ArePlain, IsPlain, blob-plain, decimal-plain, values-plain}
use Rattle.fl_csv.proofs.ReadBack.{all-fit, line-back}
use Rattle.fl_csv.proofs.BareLines.{only-joined}

-- a line of bytes that are no control bytes
abbrev IsLine : List ℕ → Type 0
IsLine line = AllByRecursion (λ byte. 32 ≤ byte) line

plain-line : (field : List ℕ) → IsPlain field → IsLine field
plain-line field h = each-weaker (λ byte. 45 ≤ byte) (λ byte. 32 ≤ byte) (λ byte le. omega (arith, le)) field h

rest-line : (fields : List (List ℕ)) → ArePlain fields → IsLine (flat_map (λ f. 44 ∷ f) fields)
rest-line [] h = tt
rest-line (field ∷ fields) h = (omega arith, each-append (λ byte. 32 ≤ byte) field (flat_map (λ f. 44 ∷ f) fields) (plain-line field h.0) (rest-line fields h.1))

joined-line : (fields : List (List ℕ)) → ArePlain fields → IsLine (joined fields)
joined-line [] h = tt
joined-line (field ∷ fields) h = each-append (λ byte. 32 ≤ byte) field (flat_map (λ f. 44 ∷ f) fields) (plain-line field h.0) (rest-line fields h.1)

no-feed : (line : List ℕ) → IsLine line → All (λ byte. eqb byte 10 ≡ false) line
no-feed [] h = All-nil (λ byte. eqb byte 10 ≡ false)
no-feed (byte ∷ bytes) h =
    let other : eqb byte 10 ≡ false = grind (arith, nat_tests, h.0) in
    All-cons (λ byte. eqb byte 10 ≡ false) byte bytes other (no-feed bytes h.1)

same-line : (line : List ℕ) → IsLine line → without_return line ≡ line
same-line [] h = refl
same-line (byte ∷ []) h =
    let other : eqb byte 13 ≡ false = grind (arith, nat_tests, h.0) in
    rw other refl
same-line (byte ∷ next ∷ bytes) h = ap (λ l. byte ∷ l) (same-line (next ∷ bytes) h.1)

first-line : (line rest : List ℕ) → IsLine line → lines_of ((line ++ 10 ∷ []) ++ rest) ≡ line ∷ lines_of rest
first-line line rest h =
    ap lines_of (append_assoc line (10 ∷ []) rest)
    ∙ ap no_empty_last (slice_split_at (λ byte. eqb byte 10) line 10 rest (no-feed line h) refl)
    ∙ no_empty-last line (slice_split (λ byte. eqb byte 10) rest) (omega (arith, length-slice_split (λ byte. eqb byte 10) rest))

-- the line of the names
names-plain : (first count : ℕ) → first + count ≤ 9 → (others : List (List ℕ)) → ArePlain others → ArePlain (column_names first count ++ others)
names-plain first zero le others h = h
names-plain first (suc count) le others h =
    ((omega arith, decimal-plain first (omega (arith, le))), names-plain (first + 1) count (omega (arith, le)) others h)

key-plain : IsPlain (codes "key")
key-plain = (omega arith, (omega arith, (omega arith, tt)))

header-plain : (columns : ℕ) (blobs : Bool) → columns ≤ 8 → ArePlain (header_fields columns blobs)
header-plain columns true le = (key-plain, names-plain 1 columns (omega (arith, le)) (codes "blob" ∷ []) ((omega arith, (omega arith, (omega arith, (omega arith, tt)))), tt))
header-plain columns false le = (key-plain, names-plain 1 columns (omega (arith, le)) [] tt)

pub header-back : HeadersReadBack
header-back columns blobs le =
    let plain = header-plain columns blobs le in
    only-joined 107 (codes "ey") (column_names 1 columns ++ (if blobs then codes "blob" ∷ [] else [])) (omega arith) plain.0 plain.1

-- the lines of the records
entry-plain : (columns : ℕ) (blobs : Bool) (stored : Record) → Fits columns blobs stored → ArePlain (entry_fields (entry_of blobs stored))
entry-plain columns blobs stored fits =
    (decimal-plain stored.key fits.key, values-plain stored.values (blob_fields (blob_told blobs stored.blob)) (all-fit stored.values fits.values) (blob-plain (blob_told blobs stored.blob)))

records-back : (columns : ℕ) (blobs : Bool) (stored : List Record) → AllByRecursion (Fits columns blobs) stored
    → map (λ line. line_put Refused columns blobs (without_return line)) (lines_of (flat_map entry_text (map (entry_of blobs) stored))) ≡ map Ok stored
records-back columns blobs [] h = refl
records-back columns blobs (first ∷ stored) h =
    let line = joined (entry_fields (entry_of blobs first)) in
    let rest = flat_map entry_text (map (entry_of blobs) stored) in
    let is = joined-line (entry_fields (entry_of blobs first)) (entry-plain columns blobs first h.0) in
    ap (map (λ line. line_put Refused columns blobs (without_return line))) (first-line line rest is)
    ∙ rw (same-line line is, line-back Refused columns blobs first h.0, records-back columns blobs stored h.1) refl

pub text-back : TextsReadBack
text-back columns blobs stored few fits =
    let header = joined (header_fields columns blobs) in
    let rest = flat_map entry_text (map (entry_of blobs) stored) in
    ap (λ lines. map (λ line. line_put Refused columns blobs (without_return line)) (drop 1 lines)) (first-line header rest (joined-line (header_fields columns blobs) (header-plain columns blobs few)))
    ∙ records-back columns blobs stored fits
