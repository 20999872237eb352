-- What operators make of the rows that match, as lines.
use Rattle.std.proofs.Common.{◌≡◌, ℕ, zero, suc, Bool, true, false, cond, ℤ, List, [], ◌∷◌, map, filter, refl, ◌∙◌, ap}
use Rattle.fl_model.specs.Operators.{column_of, compares, select, project}
use Rattle.fl_model.specs.Record.{Plan, has_var}
use Rattle.fl_model.specs.Row.{stored_row}
use Rattle.fl_model.specs.Table.{Entry}
use Rattle.fl_machine.specs.Step.{note_of}
use Rattle.fl_ops.specs.Columns.{Comparison, record_of, records_of, row_passes}
use Rattle.fl_words.specs.Reply.{Reply}
use Rattle.fl_queries.specs.Rows.{row_reply}
use Rattle.fl_queries.proofs.RowLines.{row-line}

-- the names of one cursor or two, one by one
pub first-same : {X : Type 0} {a x : X} {before after : List X} → a ∷ before ≡ x ∷ after → a ≡ x
first-same e = cc

pub second-same : {X : Type 0} {a b x y : X} {before after : List X} → a ∷ b ∷ before ≡ x ∷ y ∷ after → b ≡ y
second-same e = cc

pub third-same : {X : Type 0} {a b c x y z : X} {before after : List X} → a ∷ b ∷ c ∷ before ≡ x ∷ y ∷ z ∷ after → c ≡ z
third-same e = cc

pub fourth-same : {X : Type 0} {a b c d x y z u : X} {before after : List X} → a ∷ b ∷ c ∷ d ∷ before ≡ x ∷ y ∷ z ∷ u ∷ after → d ≡ u
fourth-same e = cc

-- a column doesn't tell a row from its record
pub column-stored : (entry : Entry) (column : ℕ) → column_of (record_of (stored_row entry)) column ≡ column_of entry.kept column
column-stored entry zero = refl
column-stored entry (suc n) = refl

-- the rows that pass a comparison are the records that do
pub selected-lines : (plan : Plan) (blobs : Bool) (comparison : Comparison) (entries : List Entry) → blobs ≡ has_var plan →
    map (row_reply blobs) (filter (row_passes comparison) (map stored_row entries)) ≡ map (note_of plan) (select comparison.column comparison.op comparison.value (map (λ entry. entry.kept) entries))
selected-lines plan blobs comparison [] noted = refl
selected-lines plan blobs comparison (entry ∷ entries) noted =
    by_test (compares comparison.op (column_of entry.kept comparison.column) comparison.value)
    (ap (λ n. compares comparison.op n comparison.value) (column-stored entry comparison.column)) (selected-lines plan blobs comparison entries noted)
  where
    line : row_reply blobs (stored_row entry) ≡ note_of plan entry.kept
    line = row-line plan blobs entry noted

    by_test : (b : Bool) → row_passes comparison (stored_row entry) ≡ b →
        map (row_reply blobs) (filter (row_passes comparison) (map stored_row entries)) ≡ map (note_of plan) (select comparison.column comparison.op comparison.value (map (λ entry. entry.kept) entries)) →
        map (row_reply blobs) (cond (row_passes comparison (stored_row entry)) (stored_row entry ∷ filter (row_passes comparison) (map stored_row entries)) (filter (row_passes comparison) (map stored_row entries)))
        ≡ map (note_of plan) (cond b (entry.kept ∷ select comparison.column comparison.op comparison.value (map (λ entry. entry.kept) entries)) (select comparison.column comparison.op comparison.value (map (λ entry. entry.kept) entries)))
    by_test true is rest =
        ap (λ b. map (row_reply blobs) (cond b (stored_row entry ∷ filter (row_passes comparison) (map stored_row entries)) (filter (row_passes comparison) (map stored_row entries)))) is
        ∙ (ap (λ (l : List Reply). row_reply blobs (stored_row entry) ∷ l) rest ∙ ap (λ (r : Reply). r ∷ map (note_of plan) (select comparison.column comparison.op comparison.value (map (λ entry. entry.kept) entries))) line)
    by_test false is rest =
        ap (λ b. map (row_reply blobs) (cond b (stored_row entry ∷ filter (row_passes comparison) (map stored_row entries)) (filter (row_passes comparison) (map stored_row entries)))) is ∙ rest

-- the fields of a row are those of its record
fields-stored : (entry : Entry) (columns : List ℕ) → map (column_of (record_of (stored_row entry))) columns ≡ map (column_of entry.kept) columns
fields-stored entry [] = refl
fields-stored entry (column ∷ columns) =
    ap (λ (v : ℤ). v ∷ map (column_of (record_of (stored_row entry))) columns) (column-stored entry column) ∙ ap (λ (vs : List ℤ). column_of entry.kept column ∷ vs) (fields-stored entry columns)

pub projected-fields : (columns : List ℕ) (entries : List Entry) → project columns (records_of (map stored_row entries)) ≡ project columns (map (λ entry. entry.kept) entries)
projected-fields columns [] = refl
projected-fields columns (entry ∷ entries) =
    ap (λ (vs : List ℤ). vs ∷ project columns (records_of (map stored_row entries))) (fields-stored entry columns)
    ∙ ap (λ (rows : List (List ℤ)). map (column_of entry.kept) columns ∷ rows) (projected-fields columns entries)
