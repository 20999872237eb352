-- A table refuses as its model does.
use Rattle.std.proofs.Common.{◌≡◌, ℕ, ◌+◌, Bool, true, false, cond, not, ◌||◌, ◌==◌, nat_le, nat_lt, Option, Some, None, IfSome, Err, subst, is_some, option_map, unwrap_or, List, length, refl, sym, ◌∙◌, ap, arith, ◌<◌, ◌≤◌}
use Rattle.std.proofs.lemmas.Bool.{ltb-false, leb-false, eqb-true, not-false, or_parts}
use Rattle.std.specs.Prelude.{if◌then◌else◌}
use Rattle.std.proofs.Math.IntN.{ℤ}
use Rattle.std.proofs.lemmas.Option.{none-some}
use Rattle.std.proofs.Math.Bool.{or-false}
use Rattle.fl_flash.specs.Flash.{FlashState}
use Rattle.fl_model.specs.Record.{Record, Plan, RowLayout, row_layout, has_var, key_limit, greatest_key, first_misfit}
use Rattle.fl_model.specs.Row.{FitsRow}
use Rattle.fl_model.specs.Ring as rings
use Rattle.fl_model.specs.Table as model
use Rattle.fl_model.specs.Table.{Table, Entry, Refusal, BadKey, BadColumns, BadValue, BadBlob, first_of as or_model, refuse_if, key_refusal, value_refusal, blob_refusal, refusal_of, is_spent, spent_from, last_entry}
use Rattle.fl_parts.specs.Bitmaps as bitmaps
use Rattle.fl_parts.proofs.IndexOfTable.{index-spent}
use Rattle.fl_parts.specs.Blobs as variable
use Rattle.fl_parts.specs.Blobs.{ArePlanned, HasFew}
use Rattle.fl_parts.proofs.BlobsOfTable.{planned-some, planned-none, var-spent}
use Rattle.fl_parts.proofs.Plain.{table-parts}
use Rattle.fl_var.specs.declared.var_data.VarData.{VarData}
use Rattle.fl_ring.specs.Place.{next_of}
use Rattle.fl_ring.specs.declared.ring.Ring.{Ring}
use Rattle.fl_schema.specs.Schema.{layout_of}
use Rattle.fl_table.specs.Memory.{is_running, next_in}
use Rattle.fl_table.specs.Refusal.{or_else, refused_if, key_refused, value_refused, blob_refused, spent_refused, limit_in, put_refusal}
use Rattle.fl_table.specs.Standing.{Stands}
use Rattle.fl_table.specs.declared.table.Table as code
use Rattle.fl_table.specs.declared.faults.PutRefusal.{PutRefusal}
use Rattle.fl_table.specs.declared.faults.PutRefusal.TheVariants.{Key, Columns, Value, Blob, Spent, Stopped, Flash}
use Rattle.fl_table.specs.Causes.{PutCausedBy, put_breaks, RefusedSame}

-- the answer to a refusal of the model
abbrev pub answer_of : Refusal → PutRefusal
answer_of (BadKey last) = Key last
answer_of (BadColumns wanted) = Columns wanted
answer_of (BadValue column) = Value column
answer_of (BadBlob limit) = Blob limit
answer_of model.Spent = Spent

abbrev answer : Option Refusal → Option PutRefusal
answer refusal = option_map answer_of refusal

either : (a b : Option Refusal) → or_else (answer a) (answer b) ≡ answer (or_model a b)
either None b = refl
either (Some r) b = refl

if_so : (b : Bool) (r : Refusal) → refused_if b (answer_of r) ≡ answer (refuse_if b r)
if_so true r = refl
if_so false r = refl

module _ {KNOTS SLOTS : ℕ} (t : code.Table KNOTS SLOTS) (f : FlashState) (first : ℕ) (plan : Plan) (table : Table) (key : ℕ) (values : List ℤ) (blob : Option (List ℕ)) (s : Stands t f first plan table) where
  item : Record
  item = record { key = key; values = values; blob = blob }

  layout : layout_of t.schema ≡ row_layout plan
  layout = sym s.planned.layout

  runs : is_running t ≡ true
  runs = ap is_some s.memory.ring_is

  key_same : key_refused t.last_key key ≡ answer (key_refusal table key)
  key_same = ap (λ (o : Option ℕ). key_refused o key) s.memory.last ∙ by_last (last_entry table)
    where
      by_last : (o : Option Entry) → key_refused (option_map (λ entry. entry.kept.key) o) key ≡ answer (unwrap_or (option_map (λ last. refuse_if (nat_le key last.kept.key) (BadKey last.kept.key)) o) None)
      by_last None = refl
      by_last (Some last) = if_so (nat_le key last.kept.key) (BadKey last.kept.key)

  columns_same : refused_if (not (length values == length (layout_of t.schema).columns)) (Columns (length (layout_of t.schema).columns)) ≡ answer (refuse_if (not (length values == length plan.columns)) (BadColumns (length plan.columns)))
  columns_same =
      ap (λ (l : RowLayout). refused_if (not (length values == length l.columns)) (Columns (length l.columns))) layout
      ∙ if_so (not (length values == length plan.columns)) (BadColumns (length plan.columns))

  value_same : value_refused t key values ≡ answer (value_refusal plan (record { key = key; values = values; blob = blob }))
  value_same =
      ap (λ (l : RowLayout). cond (nat_lt (greatest_key l) key) (Some (Value 0)) (option_map (λ column. Value column) (first_misfit 1 l.columns values))) layout
      ∙ by_limit (nat_lt (key_limit plan) key)
    where
      columns : (o : Option ℕ) → option_map (λ column. Value column) o ≡ answer (option_map (λ column. BadValue column) o)
      columns None = refl
      columns (Some n) = refl

      by_limit : (b : Bool) → cond b (Some (Value 0)) (option_map (λ column. Value column) (first_misfit 1 plan.columns values)) ≡ answer (cond b (Some (BadValue 0)) (option_map (λ column. BadValue column) (first_misfit 1 plan.columns values)))
      by_limit true = refl
      by_limit false = columns (first_misfit 1 plan.columns values)

  has_blobs : has_var plan ≡ is_some t.blobs
  has_blobs = by_blobs t.blobs s.planned.var
    where
      by_blobs : (o : Option VarData) → ArePlanned o (first + plan.data_blocks + plan.index_blocks) plan → has_var plan ≡ is_some o
      by_blobs None h = planned-none (first + plan.data_blocks + plan.index_blocks) plan h
      by_blobs (Some v) h = planned-some v (first + plan.data_blocks + plan.index_blocks) plan h

  blob_same : blob_refused t (option_map (λ (xs : List ℕ). length xs) blob) ≡ answer (blob_refusal plan (record { key = key; values = values; blob = blob }))
  blob_same = by_blob blob
    where
      by_blob : (o : Option (List ℕ)) → blob_refused t (option_map (λ (xs : List ℕ). length xs) o) ≡ answer (blob_refusal plan (record { key = key; values = values; blob = o }))
      by_blob None = refl
      by_blob (Some bytes) =
          if_so (not (is_some t.blobs) || nat_lt (limit_in t) (length bytes)) (BadBlob (limit_in t))
          ∙ (ap (λ n. answer (refuse_if (not (is_some t.blobs) || nat_lt (cond (is_some t.blobs) n 0) (length bytes)) (BadBlob (cond (is_some t.blobs) n 0)))) (sym s.planned.limit)
          ∙ ap (λ v. answer (refuse_if (not v || nat_lt (cond v plan.blob_limit 0) (length bytes)) (BadBlob (cond v plan.blob_limit 0)))) (sym has_blobs))

  spent_same : spent_refused t ≡ answer (refuse_if (is_spent table) model.Spent)
  spent_same =
      let facts = table-parts plan table s.planned.log s.facts in
      let index = nat_le spent_from (bitmaps.next_of t.bitmaps) in
      let var = nat_le spent_from (variable.next_of t.blobs) in
      ap (λ (o : Option Ring). refused_if (unwrap_or (option_map (λ ring. nat_le spent_from (next_of ring)) o) false || nat_le spent_from (bitmaps.next_of t.bitmaps) || nat_le spent_from (variable.next_of t.blobs)) Spent) s.memory.ring_is
      ∙ (ap (λ n. refused_if (nat_le spent_from n || nat_le spent_from (bitmaps.next_of t.bitmaps) || nat_le spent_from (variable.next_of t.blobs)) Spent) s.memory.next
      ∙ (ap (λ b. refused_if (nat_le spent_from table.rows.next || b || nat_le spent_from (variable.next_of t.blobs)) Spent) (index-spent t.bitmaps f (first + plan.data_blocks) plan table s.planned.index facts.index s.bitmaps)
      ∙ (ap (λ b. refused_if (nat_le spent_from table.rows.next || unwrap_or (option_map (λ ring. nat_le spent_from ring.next) table.index) false || b) Spent)
      (var-spent t.blobs f (first + plan.data_blocks + plan.index_blocks) plan table s.planned.var facts.blobs s.blobs)
      ∙ (ap (λ b. refused_if b Spent) (sym (or-false spent) ∙ ap (λ (o : Option rings.Ring). spent || unwrap_or (option_map (λ ring. nat_le spent_from ring.next) o) false) (sym facts.bare.0))
      ∙ if_so (is_spent table) model.Spent))))
    where
      spent : Bool
      spent = nat_le spent_from table.rows.next || unwrap_or (option_map (λ ring. nat_le spent_from ring.next) table.index) false || unwrap_or (option_map (λ ring. nat_le spent_from ring.next) table.var) false

  pub refusals-agree : put_refusal t key values (option_map (λ (xs : List ℕ). length xs) blob) ≡ answer (refusal_of plan table (record { key = key; values = values; blob = blob }))
  refusals-agree =
      ap (λ b. or_else (refused_if (not b) Stopped) (or_else (key_refused t.last_key key) (or_else (refused_if (not (length values == length (layout_of t.schema).columns)) (Columns (length (layout_of t.schema).columns)))
      (or_else (value_refused t key values) (or_else (blob_refused t (option_map (λ (xs : List ℕ). length xs) blob)) (spent_refused t)))))) runs
      ∙ (rw (key_same, columns_same, value_same, blob_same, spent_same)
      (rw (either (blob_refusal plan (record { key = key; values = values; blob = blob })) (refuse_if (is_spent table) model.Spent))
      (rw (either (value_refusal plan (record { key = key; values = values; blob = blob })) (or_model (blob_refusal plan (record { key = key; values = values; blob = blob })) (refuse_if (is_spent table) model.Spent)))
      (rw (either (refuse_if (not (length values == length plan.columns)) (BadColumns (length plan.columns))) (or_model (value_refusal plan (record { key = key; values = values; blob = blob })) (or_model (blob_refusal plan (record { key = key; values = values; blob = blob })) (refuse_if (is_spent table) model.Spent))))
      (either (key_refusal table key) (or_model (refuse_if (not (length values == length plan.columns)) (BadColumns (length plan.columns))) (or_model (value_refusal plan (record { key = key; values = values; blob = blob })) (or_model (blob_refusal plan (record { key = key; values = values; blob = blob })) (refuse_if (is_spent table) model.Spent)))))))))

  -- what is refused
  pub answered : (refusal : PutRefusal) → put_refusal t key values (option_map (λ (xs : List ℕ). length xs) blob) ≡ Some refusal →
      (r : Refusal) × (refusal_of plan table (record { key = key; values = values; blob = blob }) ≡ Some r) × (refusal ≡ answer_of r)
  answered refusal e = by_model (refusal_of plan table (record { key = key; values = values; blob = blob })) refl (sym refusals-agree ∙ e)
    where
      by_model : (o : Option Refusal) → refusal_of plan table (record { key = key; values = values; blob = blob }) ≡ o → answer o ≡ Some refusal →
          (r : Refusal) × (refusal_of plan table (record { key = key; values = values; blob = blob }) ≡ Some r) × (refusal ≡ answer_of r)
      by_model None k e = absurd (none-some refusal e)
      by_model (Some r) k e = (r, k, same e)
        where
          same : Some (answer_of r) ≡ Some refusal → refusal ≡ answer_of r
          same e = cc

  -- what isn't
  pub not-refused : put_refusal t key values (option_map (λ (xs : List ℕ). length xs) blob) ≡ None → refusal_of plan table (record { key = key; values = values; blob = blob }) ≡ None
  not-refused e = by_model (refusal_of plan table (record { key = key; values = values; blob = blob })) (sym refusals-agree ∙ e)
    where
      by_model : (o : Option Refusal) → answer o ≡ None → o ≡ None
      by_model None e = refl
      by_model (Some r) e = cc

-- ---- what the calls of a put are told, of memory alone

neither : (a b : Option PutRefusal) → or_else a b ≡ None → (a ≡ None) × (b ≡ None)
neither None b e = (refl, e)
neither (Some r) b e = cc

not_so : (b : Bool) (r : PutRefusal) → refused_if b r ≡ None → b ≡ false
not_so true r e = cc
not_so false r e = refl

module _ {KNOTS SLOTS : ℕ} (t : code.Table KNOTS SLOTS) (key : ℕ) (values : List ℤ) (blob : Option ℕ) (e : put_refusal t key values blob ≡ None) where
  last_two : (blob_refused t blob ≡ None) × (spent_refused t ≡ None)
  last_two =
      let a = neither (refused_if (not (is_running t)) Stopped) _ e in
      let b = neither (key_refused t.last_key key) _ a.1 in
      let c = neither (refused_if (not (length values == length (layout_of t.schema).columns)) (Columns (length (layout_of t.schema).columns))) _ b.1 in
      let d = neither (value_refused t key values) _ c.1 in
      neither (blob_refused t blob) (spent_refused t) d.1

  pub told-running : is_running t ≡ true
  told-running = not-false (is_running t) (not_so (not (is_running t)) Stopped (neither (refused_if (not (is_running t)) Stopped) _ e).0)

  -- its row fits, as far as its blob isn't told
  pub fits-row : FitsRow (layout_of t.schema) (record { key = key; values = values; blob = None })
  fits-row =
      let a = neither (refused_if (not (is_running t)) Stopped) _ e in
      let b = neither (key_refused t.last_key key) _ a.1 in
      let c = neither (refused_if (not (length values == length (layout_of t.schema).columns)) (Columns (length (layout_of t.schema).columns))) _ b.1 in
      let d = neither (value_refused t key values) _ c.1 in
      let fits = by_key (nat_lt (greatest_key (layout_of t.schema)) key) refl d.0 in
      let many = not-false (length values == length (layout_of t.schema).columns) (not_so (not (length values == length (layout_of t.schema).columns)) (Columns (length (layout_of t.schema).columns)) c.0) in
      record {
        key = let n = ltb-false (greatest_key (layout_of t.schema)) key fits.0 in omega (arith, n);
        as_many = eqb-true (length values) (length (layout_of t.schema).columns) many;
        values = fits.1;
        blob = tt;
      }
    where
      no_misfit : (o : Option ℕ) → option_map (λ column. Value column) o ≡ None → o ≡ None
      no_misfit None h = refl
      no_misfit (Some n) h = cc

      by_key : (b : Bool) → nat_lt (greatest_key (layout_of t.schema)) key ≡ b → (if b then Some (Value 0) else option_map (λ column. Value column) (first_misfit 1 (layout_of t.schema).columns values)) ≡ None →
          (nat_lt (greatest_key (layout_of t.schema)) key ≡ false) × (first_misfit 1 (layout_of t.schema).columns values ≡ None)
      by_key true k h = cc
      by_key false k h = (k, no_misfit (first_misfit 1 (layout_of t.schema).columns values) h)

  pub not-spent : (next_in t < spent_from) × (bitmaps.next_of t.bitmaps < spent_from) × (variable.next_of t.blobs < spent_from)
  not-spent =
      let all = not_so _ Spent last_two.1 in
      let a = or_parts (unwrap_or (option_map (λ ring. nat_le spent_from (next_of ring)) t.ring) false || nat_le spent_from (bitmaps.next_of t.bitmaps)) (nat_le spent_from (variable.next_of t.blobs)) all in
      let b = or_parts (unwrap_or (option_map (λ ring. nat_le spent_from (next_of ring)) t.ring) false) (nat_le spent_from (bitmaps.next_of t.bitmaps)) a.0 in
      (by_ring t.ring b.0, let n = leb-false spent_from (bitmaps.next_of t.bitmaps) b.1 in omega (arith, n), let n = leb-false spent_from (variable.next_of t.blobs) a.1 in omega (arith, n))
    where
      by_ring : (o : Option Ring) → unwrap_or (option_map (λ ring. nat_le spent_from (next_of ring)) o) false ≡ false → unwrap_or (option_map (λ ring. next_of ring) o) 0 < spent_from
      by_ring None k = omega arith
      by_ring (Some ring) k = let n = leb-false spent_from (next_of ring) k in omega (arith, n)

  pub few-bytes : (len : ℕ) → blob ≡ Some len → len ≤ 1500
  few-bytes len is =
      let all : (not (is_some t.blobs) || nat_lt (limit_in t) len) ≡ false = not_so _ (Blob (limit_in t)) (ap (blob_refused t) (sym is) ∙ last_two.0) in
      let n = ltb-false (limit_in t) len (or_parts (not (is_some t.blobs)) (nat_lt (limit_in t) len) all).1 in
      omega (arith, n, most (is_some t.blobs))
    where
      most : (b : Bool) → cond b t.blob_limit 0 ≤ 1500
      most true = t.blobs_fit
      most false = omega arith

pub few-blob : {KNOTS SLOTS : ℕ} (t : code.Table KNOTS SLOTS) (key : ℕ) (values : List ℤ) (blob : Option (List ℕ)) → put_refusal t key values (option_map (λ (xs : List ℕ). length xs) blob) ≡ None → HasFew blob
few-blob t key values None e = tt
few-blob t key values (Some bytes) e = few-bytes t key values (Some (length bytes)) e (length bytes) refl

-- ---- a refusal of a record is no fault of the flash

abbrev pub IsCalm : Option PutRefusal → Type 0
IsCalm refusal = IfSome refusal (λ r. put_breaks (Err r) ≡ false)

calm-either : (a b : Option PutRefusal) → IsCalm a → IsCalm b → IsCalm (or_else a b)
calm-either None b h k = k
calm-either (Some r) b h k = h

calm-if : (b : Bool) (r : PutRefusal) → put_breaks (Err r) ≡ false → IsCalm (refused_if b r)
calm-if true r h = h
calm-if false r h = tt

module _ {KNOTS SLOTS : ℕ} (t : code.Table KNOTS SLOTS) (key : ℕ) (values : List ℤ) where
  calm-key : (o : Option ℕ) → IsCalm (key_refused o key)
  calm-key None = tt
  calm-key (Some last) = calm-if (nat_le key last) (Key last) refl

  calm-value : IsCalm (value_refused t key values)
  calm-value = by_limit (nat_lt (greatest_key (layout_of t.schema)) key)
    where
      columns : (o : Option ℕ) → IsCalm (option_map (λ column. Value column) o)
      columns None = tt
      columns (Some n) = refl

      by_limit : (b : Bool) → IsCalm (cond b (Some (Value 0)) (option_map (λ column. Value column) (first_misfit 1 (layout_of t.schema).columns values)))
      by_limit true = refl
      by_limit false = columns (first_misfit 1 (layout_of t.schema).columns values)

  calm-blob : (o : Option ℕ) → IsCalm (blob_refused t o)
  calm-blob None = tt
  calm-blob (Some len) = calm-if (not (is_some t.blobs) || nat_lt (limit_in t) len) (Blob (limit_in t)) refl

  pub refusal-calm : (blob : Option ℕ) (r : PutRefusal) → put_refusal t key values blob ≡ Some r → put_breaks (Err r) ≡ false
  refusal-calm blob r e =
      subst IsCalm e (calm-either (refused_if (not (is_running t)) Stopped) _ (calm-if (not (is_running t)) Stopped refl)
      (calm-either (key_refused t.last_key key) _ (calm-key t.last_key)
      (calm-either (refused_if (not (length values == length (layout_of t.schema).columns)) (Columns (length (layout_of t.schema).columns))) _ (calm-if (not (length values == length (layout_of t.schema).columns)) (Columns (length (layout_of t.schema).columns)) refl)
      (calm-either (value_refused t key values) _ calm-value
      (calm-either (blob_refused t blob) (spent_refused t) (calm-blob blob)
      (calm-if (unwrap_or (option_map (λ ring. nat_le spent_from (next_of ring)) t.ring) false || nat_le spent_from (bitmaps.next_of t.bitmaps) || nat_le spent_from (variable.next_of t.blobs)) Spent refl))))))

pub calm-cause : (f : FlashState) (r : PutRefusal) → put_breaks (Err r) ≡ false → PutCausedBy f r f
calm-cause f (Key last) e = refl
calm-cause f (Columns wanted) e = refl
calm-cause f (Value column) e = refl
calm-cause f (Blob limit) e = refl
calm-cause f Spent e = refl
calm-cause f Stopped e = refl
calm-cause f (Flash fault) e = cc

pub calm-same : {KNOTS SLOTS : ℕ} (t : code.Table KNOTS SLOTS) (f : FlashState) (r : PutRefusal) → put_breaks (Err r) ≡ false → RefusedSame t f r t f
calm-same t f (Key last) e = (refl, refl)
calm-same t f (Columns wanted) e = (refl, refl)
calm-same t f (Value column) e = (refl, refl)
calm-same t f (Blob limit) e = (refl, refl)
calm-same t f Spent e = (refl, refl)
calm-same t f Stopped e = (refl, refl)
calm-same t f (Flash fault) e = cc
