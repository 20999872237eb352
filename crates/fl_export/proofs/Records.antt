-- What a row tells of its blob, and a record's line.
use Rattle.std.proofs.Common.{◌≡◌, ℕ, ℤ, Bool, true, false, cond, Option, Some, None, List, [], length, refl, sym, ◌∙◌, ap, subst, option_map, unwrap_or, if◌then◌else◌, eq-eqb}
use Rattle.std.proofs.lemmas.Option.{none-some, same_Some}
use Rattle.fl_base.specs.declared.types.BlobRef.{BlobRef}
use Rattle.fl_csv.specs.Text as csv
use Rattle.fl_csv.specs.Text.{Blob, entry_text}
use Rattle.fl_model.specs.Query.{BlobState, Without, Lost, Stands as StandsWith, blob_in, blob_of, page_stands}
use Rattle.fl_model.specs.Record.{Plan, has_var}
use Rattle.fl_model.specs.Ring.{Ring}
use Rattle.fl_model.specs.Row.{Row, stored_row}
use Rattle.fl_model.specs.Table as model
use Rattle.fl_model.specs.Table.{Entry}
use Rattle.fl_table.specs.declared.table.Table.{Table}
use Rattle.fl_export.specs.Records.{field_of}
use Rattle.fl_export.specs.Text.{told_blob, said_of}

-- ---- the blob of an entry

-- an entry has none where its row names none, and else its bytes stand where the row says
pub unnamed : (table : model.Table) (entry : Entry) → None ≡ (stored_row entry).blob → blob_of table entry ≡ Without
unnamed table entry e = by_blob entry.kept.blob refl e
  where
    by_blob : (o : Option (List ℕ)) → entry.kept.blob ≡ o → ◌≡◌ {A = Option BlobRef} None (option_map (λ bytes. record { page = entry.page; offset = entry.offset; length = length bytes }) o) → blob_of table entry ≡ Without
    by_blob None is e = ap (blob_in table entry) is
    by_blob (Some bytes) is e = absurd (none-some _ e)

pub record Named (entry : Entry) (at : BlobRef) : Type 0 where
  pub bytes : List ℕ
  pub blob_is : entry.kept.blob ≡ Some bytes
  pub at_is : at ≡ record { page = entry.page; offset = entry.offset; length = length bytes }

pub named-by : (entry : Entry) (at : BlobRef) → Some at ≡ (stored_row entry).blob → Named entry at
named-by entry at e = by_blob entry.kept.blob refl e
  where
    by_blob : (o : Option (List ℕ)) → entry.kept.blob ≡ o → ◌≡◌ {A = Option BlobRef} (Some at) (option_map (λ bytes. record { page = entry.page; offset = entry.offset; length = length bytes }) o) → Named entry at
    by_blob None is e = absurd (none-some at (sym e))
    by_blob (Some bytes) is e = record { bytes = bytes; blob_is = is; at_is = same_Some _ _ e }

-- the empty blob is never gone
pub empty-stands : (table : model.Table) (entry : Entry) (bytes : List ℕ) → entry.kept.blob ≡ Some bytes → length bytes ≡ 0 → blob_of table entry ≡ StandsWith []
empty-stands table entry bytes blob_is none =
    ap (blob_in table entry) blob_is
    ∙ ap (λ (b : Bool). cond b (StandsWith []) (cond (unwrap_or (option_map (λ (ring : Ring). page_stands ring entry.page) table.var) false) (StandsWith bytes) Lost)) (eq-eqb (length bytes) 0 none)

-- ---- the line

pub field-is : (plan : Plan) (blobs : Bool) (state : BlobState) → blobs ≡ has_var plan → field_of blobs state ≡ (if has_var plan then told_blob state else csv.Absent)
field-is plan true state e = subst (λ b. told_blob state ≡ (if b then told_blob state else csv.Absent)) e refl
field-is plan false state e = subst (λ b. csv.Absent ≡ (if b then told_blob state else csv.Absent)) e refl

-- the record that is written is the one that is said
pub said-is : (plan : Plan) (table : model.Table) (entry : Entry) (row : Row) (blobs : Bool) (blob : Blob) → row ≡ stored_row entry → blobs ≡ has_var plan → blob ≡ field_of blobs (blob_of table entry) →
    record { key = row.key; values = row.values; blob = blob } ≡ said_of plan table entry
said-is plan table entry row blobs blob row_is noted blob_is =
    ap (λ (r : Row). record { key = r.key; values = r.values; blob = blob }) row_is
    ∙ ap (λ (b : Blob). record { key = entry.kept.key; values = entry.kept.values; blob = b }) (blob_is ∙ field-is plan blobs (blob_of table entry) noted)

-- what is told of a blob that a row names, or of none
pub whole-field : (blobs : Bool) (state : BlobState) (bytes : List ℕ) → blobs ≡ true → state ≡ StandsWith bytes → csv.Bytes bytes ≡ field_of blobs state
whole-field blobs state bytes has is = sym (ap (λ (b : Bool). field_of b state) has ∙ ap told_blob is)

pub none-field : (blobs : Bool) (state : BlobState) → blobs ≡ true → state ≡ Without → csv.Nothing ≡ field_of blobs state
none-field blobs state has is = sym (ap (λ (b : Bool). field_of b state) has ∙ ap told_blob is)

pub gone-field : (blobs : Bool) (state : BlobState) → blobs ≡ true → state ≡ Lost → csv.Gone ≡ field_of blobs state
gone-field blobs state has is = sym (ap (λ (b : Bool). field_of b state) has ∙ ap told_blob is)

-- the line that is written is that of the record
pub line-is : (plan : Plan) (table : model.Table) (entry : Entry) (row : Row) (blobs : Bool) (key : ℕ) (values : List ℤ) (blob : Blob) → key ≡ row.key → values ≡ row.values → row ≡ stored_row entry → blobs ≡ has_var plan → blob ≡ field_of blobs (blob_of table entry) →
    entry_text (record { key = key; values = values; blob = blob }) ≡ entry_text (said_of plan table entry)
line-is plan table entry row blobs key values blob key_is values_are row_is noted blob_is =
    ap (λ (k : ℕ). entry_text (record { key = k; values = values; blob = blob })) key_is
    ∙ (ap (λ (v : List ℤ). entry_text (record { key = row.key; values = v; blob = blob })) values_are
    ∙ ap entry_text (said-is plan table entry row blobs blob row_is noted blob_is))
