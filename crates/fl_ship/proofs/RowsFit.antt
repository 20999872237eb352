-- A row that was read fits its layout, so that a table of this layout refuses it for want of page numbers alone.
use Rattle.std.proofs.Common.{◌≡◌, ℕ, ◌<◌, ◌⊎◌, inl, inr, Bool, true, false, not, ◌==◌, if◌then◌else◌, IfErr, Option, Some, None, Result, Ok, Err, length, refl, sym, ◌∙◌, ap, subst}
use Rattle.std.specs.Option.{option_map}
use Rattle.std.proofs.lemmas.Bool.{eq-eqb, le-ltb, lt-leb}
use Rattle.fl_flash.specs.Flash.{FlashState}
use Rattle.fl_model.specs.Record.{first_misfit, greatest_key}
use Rattle.fl_model.specs.Row.{Row, FitsRow}
use Rattle.fl_rlc.specs.Refusal.{log_refused, put_refusal}
use Rattle.fl_rlc.specs.declared.log.RecordLog.{RecordLog}
use Rattle.fl_rlc.specs.declared.table.LoggedTable.{LoggedTable}
use Rattle.fl_schema.specs.Form.{types_in}
use Rattle.fl_schema.specs.Schema.{bytes_of, layout_of, layout_of_row, row_of}
use Rattle.fl_schema.specs.declared.row.RowRef.{RowRef}
use Rattle.fl_table.specs.Causes as table
use Rattle.fl_table.specs.Memory.{is_running}
use Rattle.fl_table.specs.Refusal as refusal
use Rattle.fl_table.specs.Refusal.{RefusesAs, key_refused, or_else, refused_if, spent_refused, value_refused}
use Rattle.fl_table.specs.declared.faults.PutRefusal.{PutRefusal}
use Rattle.fl_table.specs.declared.faults.PutRefusal.TheVariants.{Key, Columns, Value, Blob, Spent, Stopped, Flash}
use Rattle.fl_table.specs.declared.table.Table.{Table}
use Rattle.fl_rules.proofs.BytesBack.{AreBytes}
use Rattle.fl_rules.proofs.RowsBack.{row_storable}
use Rattle.fl_ship.specs.Rows.{PutCausedBy}

-- ---- a row that was read

pub row-fits : (row : RowRef) → AreBytes (bytes_of row) → FitsRow (layout_of_row row) (row_of row)
row-fits row each = (row_storable row.kind.key (types_in row.kind.columns.now) row.kind.blobs (bytes_of row) each row.whole).fits

-- ---- what refuses it

abbrev IsSpent : Option PutRefusal → Type 0
IsSpent refusal = (refusal ≡ None) ⊎ (refusal ≡ Some Spent)

spent-if : (b : Bool) → IsSpent (refused_if b Spent)
spent-if true = inr refl
spent-if false = inl refl

spent-log : (log : Option RecordLog) → IsSpent (log_refused log)
spent-log None = inl refl
spent-log (Some log) = spent-if _

spent-either : (a b : Option PutRefusal) → IsSpent a → IsSpent b → IsSpent (or_else a b)
spent-either a b (inl none) h = subst (λ (o : Option PutRefusal). IsSpent (or_else o b)) (sym none) h
spent-either a b (inr spent) h = subst (λ (o : Option PutRefusal). IsSpent (or_else o b)) (sym spent) (inr refl)

no-key : (last : Option ℕ) (key : ℕ) → ((before : ℕ) → last ≡ Some before → before < key) → key_refused last key ≡ None
no-key None key above = refl
no-key (Some before) key above = ap (λ (b : Bool). refused_if b (Key before)) (lt-leb key before (above before refl))

module _ (t : Table 64 64) (row : Row) (fits : FitsRow (layout_of t.schema) row) where
  no-columns : refused_if (not (length row.values == length (layout_of t.schema).columns)) (Columns (length (layout_of t.schema).columns)) ≡ None
  no-columns = ap (λ (b : Bool). refused_if (not b) (Columns (length (layout_of t.schema).columns))) (eq-eqb (length row.values) (length (layout_of t.schema).columns) fits.as_many)

  no-value : value_refused t row.key row.values ≡ None
  no-value =
      ap (λ (b : Bool). if b then Some (Value 0) else option_map (λ column. Value column) (first_misfit 1 (layout_of t.schema).columns row.values)) (le-ltb (greatest_key (layout_of t.schema)) row.key fits.key)
      ∙ ap (λ (o : Option ℕ). option_map (λ column. Value column) o) fits.values

  -- page numbers alone decide
  pub refused-alone : is_running t ≡ true → ((before : ℕ) → t.last_key ≡ Some before → before < row.key) → refusal.put_refusal t row.key row.values None ≡ spent_refused t
  refused-alone running above = rw (running, no-key t.last_key row.key above, no-columns, no-value) refl

  pub spent-alone : is_running t ≡ true → ((before : ℕ) → t.last_key ≡ Some before → before < row.key) → IsSpent (refusal.put_refusal t row.key row.values None)
  spent-alone running above = subst IsSpent (sym (refused-alone running above)) (spent-if _)

-- a row that fits, with a key above the last one
pub put-spent : (t : LoggedTable 64 64) (row : Row) → FitsRow (layout_of t.table.schema) row → is_running t.table ≡ true → ((before : ℕ) → t.table.last_key ≡ Some before → before < row.key) → IsSpent (put_refusal t row.key row.values None)
put-spent t row fits running above = spent-either (refusal.put_refusal t.table row.key row.values None) (log_refused t.log) (spent-alone t.table row fits running above) (spent-log t.log)

-- ---- what a put answers then

pub put-caused : (o : Option PutRefusal) (result : Result (Unit {0}) PutRefusal) (f g : FlashState) → IsSpent o → RefusesAs o result → IfErr result (λ e. table.PutCausedBy f e g) → IfErr result (PutCausedBy f g)
put-caused o (Ok done) f g spent refuses cause = tt
put-caused o (Err (Flash fault)) f g spent refuses cause = cause
put-caused o (Err Spent) f g spent refuses cause = tt
put-caused o (Err (Key last)) f g (inl none) refuses cause = absurd (subst (λ (p : Option PutRefusal). RefusesAs p (Err (Key last))) none refuses)
put-caused o (Err (Columns wanted)) f g (inl none) refuses cause = absurd (subst (λ (p : Option PutRefusal). RefusesAs p (Err (Columns wanted))) none refuses)
put-caused o (Err (Value column)) f g (inl none) refuses cause = absurd (subst (λ (p : Option PutRefusal). RefusesAs p (Err (Value column))) none refuses)
put-caused o (Err (Blob limit)) f g (inl none) refuses cause = absurd (subst (λ (p : Option PutRefusal). RefusesAs p (Err (Blob limit))) none refuses)
put-caused o (Err Stopped) f g (inl none) refuses cause = absurd (subst (λ (p : Option PutRefusal). RefusesAs p (Err Stopped)) none refuses)
put-caused o (Err (Key last)) f g (inr spent) refuses cause = let no = subst (λ (p : Option PutRefusal). RefusesAs p (Err (Key last))) spent refuses in cc no
put-caused o (Err (Columns wanted)) f g (inr spent) refuses cause = let no = subst (λ (p : Option PutRefusal). RefusesAs p (Err (Columns wanted))) spent refuses in cc no
put-caused o (Err (Value column)) f g (inr spent) refuses cause = let no = subst (λ (p : Option PutRefusal). RefusesAs p (Err (Value column))) spent refuses in cc no
put-caused o (Err (Blob limit)) f g (inr spent) refuses cause = let no = subst (λ (p : Option PutRefusal). RefusesAs p (Err (Blob limit))) spent refuses in cc no
put-caused o (Err Stopped) f g (inr spent) refuses cause = let no = subst (λ (p : Option PutRefusal). RefusesAs p (Err Stopped)) spent refuses in cc no

pub spent-is : (o : Option PutRefusal) (result : Result (Unit {0}) PutRefusal) → IsSpent o → RefusesAs o result → result ≡ Err Spent → o ≡ Some Spent
spent-is o result (inr spent) refuses is = spent
spent-is o result (inl none) refuses is = absurd (subst (λ (r : Result (Unit {0}) PutRefusal). RefusesAs None r) is (subst (λ (p : Option PutRefusal). RefusesAs p result) none refuses))
