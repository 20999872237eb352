-- The text of an export is that of its records, and so is read back.
use Rattle.std.proofs.Common.{◌≡◌, ℕ, Bool, true, false, Option, None, Some, Result, Ok, List, [], ◌∷◌, length, map, if◌then◌else◌, refl, sym, ◌∙◌, ap, ◌==◌, option_map, unwrap_or, eqb-true}
use Rattle.std.specs.List.{AllByRecursion}
use Rattle.std.proofs.lemmas.List.{nil_from_length}
use Rattle.fl_csv.proofs.TextBack.{text-back}
use Rattle.fl_csv.specs.Laws.{Fits, blob_told, entry_of}
use Rattle.fl_csv.specs.Lines.{text_puts}
use Rattle.fl_csv.specs.Text as csv
use Rattle.fl_csv.specs.declared.record.CsvRefusal.{CsvRefusal}
use Rattle.fl_csv.specs.Text.{Blob, csv_text}
use Rattle.fl_model.specs.Query.{Lost, blob_in, page_stands, selected}
use Rattle.fl_model.specs.Record.{Plan, Record, has_var}
use Rattle.fl_model.specs.Table.{Table, Entry}
use Rattle.fl_export.specs.Laws.{IsWhole, ExportsReadBack}
use Rattle.fl_export.specs.Text.{told_blob, said_of}

-- a blob that isn't gone is told by its bytes
told-bytes : (table : Table) (entry : Entry) (bytes : List ℕ) → (blob_in table entry (Some bytes) ≡ Lost → ⊥) → told_blob (blob_in table entry (Some bytes)) ≡ csv.Bytes bytes
told-bytes table entry bytes there = by_len (length bytes == 0) refl (unwrap_or (option_map (λ ring. page_stands ring entry.page) table.var) false) refl
  where
    by_stands : (s : Bool) → (length bytes == 0) ≡ false → unwrap_or (option_map (λ ring. page_stands ring entry.page) table.var) false ≡ s → told_blob (blob_in table entry (Some bytes)) ≡ csv.Bytes bytes
    by_stands true some stands = rw (some, stands) refl
    by_stands false some stands = absurd (there (rw (some, stands) refl))

    by_len : (none : Bool) → (length bytes == 0) ≡ none → (s : Bool) → unwrap_or (option_map (λ ring. page_stands ring entry.page) table.var) false ≡ s → told_blob (blob_in table entry (Some bytes)) ≡ csv.Bytes bytes
    by_len true none s stands = rw none (ap csv.Bytes (sym (nil_from_length bytes (eqb-true (length bytes) 0 none))))
    by_len false some s stands = by_stands s some stands

told-same : (blobs : Bool) (table : Table) (entry : Entry) (blob : Option (List ℕ)) → (blob_in table entry blob ≡ Lost → ⊥) → (if blobs then told_blob (blob_in table entry blob) else csv.Absent) ≡ blob_told blobs blob
told-same false table entry blob there = refl
told-same true table entry None there = refl
told-same true table entry (Some bytes) there = told-bytes table entry bytes there

said-same : (plan : Plan) (table : Table) (entry : Entry) → IsWhole plan table entry → said_of plan table entry ≡ entry_of (has_var plan) entry.kept
said-same plan table entry h = ap (λ (blob : Blob). let e : csv.Entry = record { key = entry.kept.key; values = entry.kept.values; blob = blob } in e) (told-same (has_var plan) table entry entry.kept.blob h.there)

all-said : (plan : Plan) (table : Table) (entries : List Entry) → AllByRecursion (IsWhole plan table) entries → map (said_of plan table) entries ≡ map (entry_of (has_var plan)) (map (λ entry. entry.kept) entries)
all-said plan table [] h = refl
all-said plan table (entry ∷ entries) h = rw (said-same plan table entry h.0, all-said plan table entries h.1) refl

all-fit : (plan : Plan) (table : Table) (entries : List Entry) → AllByRecursion (IsWhole plan table) entries → AllByRecursion (Fits (length plan.columns) (has_var plan)) (map (λ entry. entry.kept) entries)
all-fit plan table [] h = tt
all-fit plan table (entry ∷ entries) h = (h.0.fits, all-fit plan table entries h.1)

abbrev read_as : Record → Result Record CsvRefusal
read_as stored = Ok stored

all-kept : (entries : List Entry) → map read_as (map (λ entry. entry.kept) entries) ≡ map (λ entry. read_as entry.kept) entries
all-kept [] = refl
all-kept (entry ∷ entries) = rw (all-kept entries) refl

pub export-back : ExportsReadBack
export-back plan table range few h =
    let entries = selected range None table.entries in
    ap (λ (es : List csv.Entry). text_puts (length plan.columns) (has_var plan) (csv_text (length plan.columns) (has_var plan) es)) (all-said plan table entries h)
    ∙ text-back (length plan.columns) (has_var plan) (map (λ entry. entry.kept) entries) few (all-fit plan table entries h)
    ∙ all-kept entries
