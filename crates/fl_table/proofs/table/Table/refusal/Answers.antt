use Rattle.std.proofs.Common.{◌≡◌, ◌≤◌, ℕ, Bool, true, false, Bor, List, length, Option, Some, is_some, option_map, not, sym, ◌∙◌, ap, subst, Fits, w32, arith}
use Rattle.std.specs.Prelude.{ℤ, ◌==◌}
use Rattle.std.proofs.lemmas.Bool.{eq-eqb, ne_eqb}
use Rattle.std.proofs.lemmas.List.{length-map}
use Rattle.fl_schema.specs.Schema.{layout_of}
use Rattle.fl_table.specs.Memory.{is_running}
use Rattle.fl_table.specs.Refusal.{or_else, refused_if, key_refused, value_refused, blob_refused, spent_refused, put_refusal}
use Rattle.fl_table.specs.declared.faults.PutRefusal.{PutRefusal}
use Rattle.fl_table.specs.declared.faults.PutRefusal.TheVariants.{Columns, Stopped}
use Rattle.fl_table.specs.declared.table.Table.{Table}
use Rattle.fl_table.proofs.Refusing as refusing
use Rattle.fl_parts.proofs.Sizes.{schema-fits, table-fits}
use Rattle.fl_table.proofs.table.Table.refusal.Goals as goal

columns-fit : (n m : ℕ) → n ≡ m → m ≤ 8 → Fits w32 n
columns-fit n m e le = omega (arith, e, le)

-- the refusals of a record, in turn
module _ {KNOTS SLOTS : ℕ} (t : Table KNOTS SLOTS) (key : ℕ) (values : List ℤ) (blob : Option ℕ) where
  abbrev stopped : Option PutRefusal
  stopped = refused_if (not (is_running t)) Stopped

  abbrev columns : Option PutRefusal
  columns = refused_if (not (length values == length (layout_of t.schema).columns)) (Columns (length (layout_of t.schema).columns))

  is-running : is_running t ≡ true → is_some stopped ≡ false
  is-running e = ap (λ (b : Bool). is_some (refused_if (not b) Stopped)) e

  as-many : length values ≡ length (layout_of t.schema).columns → is_some columns ≡ false
  as-many e = ap (λ (b : Bool). is_some (refused_if (not b) (Columns (length (layout_of t.schema).columns)))) (eq-eqb (length values) (length (layout_of t.schema).columns) e)

  by-key : is_running t ≡ true → is_some (key_refused t.last_key key) ≡ true → key_refused t.last_key key ≡ put_refusal t key values blob
  by-key up some = refusing.by-key stopped (key_refused t.last_key key) columns (value_refused t key values) (blob_refused t blob) (spent_refused t) (is-running up) some

  by-columns : (wanted : ℕ) → wanted ≡ length (layout_of t.schema).columns → is_running t ≡ true → is_some (key_refused t.last_key key) ≡ false → (length values ≡ wanted → ⊥) → Some (Columns wanted) ≡ put_refusal t key values blob
  by-columns wanted same up kept other =
      let here : Some (Columns wanted) ≡ columns = subst (λ (n : ℕ). Some (Columns wanted) ≡ refused_if (not (length values == n)) (Columns n)) same
      (ap (λ (b : Bool). refused_if (not b) (Columns wanted)) (sym (ne_eqb (length values) wanted other))) in
      here ∙ refusing.by-columns stopped (key_refused t.last_key key) columns (value_refused t key values) (blob_refused t blob) (spent_refused t) (is-running up) kept (ap is_some (sym here))

  behind : (rest : Option PutRefusal) → rest ≡ or_else (value_refused t key values) (or_else (blob_refused t blob) (spent_refused t)) → is_running t ≡ true → is_some (key_refused t.last_key key) ≡ false →
      length values ≡ length (layout_of t.schema).columns → rest ≡ put_refusal t key values blob
  behind rest e up kept many =
      e ∙ refusing.by-rest stopped (key_refused t.last_key key) columns (or_else (value_refused t key values) (or_else (blob_refused t blob) (spent_refused t))) (is-running up) kept (as-many many)

pub is_running-requires : goal.is_running-requires
is_running-requires g c = table-fits g.row.KNOTS g.row.SLOTS c.args.self.now.few_knots c.args.self.now.few_slots

pub key_refused-refused-requires : goal.key_refused-refused-requires
key_refused-refused-requires g c = table-fits g.row.KNOTS g.row.SLOTS c.args.self.now.few_knots c.args.self.now.few_slots

pub returns-then-is_some : goal.returns-then-is_some
returns-then-is_some g c =
    let t = c.args.self.now in
    let e = c.key_refused-refused.ensures in
    e ∙ by-key t c.args.key c.args.values.now (option_map (λ (b : Bor (List ℕ)). length b.now) c.args.blob) (sym c.is_running.ensures ∙ c.if-not-is_running.false) (ap is_some (sym e) ∙ (sym c.is_some.ensures ∙ c.if-is_some.true))

pub columns-wanted-requires : goal.columns-wanted-requires
columns-wanted-requires g c = schema-fits

pub overflow_cast-result : goal.overflow_cast-result
overflow_cast-result g c = columns-fit _ _ c.columns-wanted.ensures c.args.self.now.few_columns

pub returns-then-values-wanted : goal.returns-then-values-wanted
returns-then-values-wanted g c =
    let t = c.args.self.now in
    let wanted : c.columns-wanted.result ≡ length (layout_of t.schema).columns = rw length-map c.columns-wanted.ensures in
    let kept = ap is_some (sym c.key_refused-refused.ensures) ∙ (sym c.is_some.ensures ∙ c.if-is_some.false) in
    by-columns t c.args.key c.args.values.now (option_map (λ (b : Bor (List ℕ)). length b.now) c.args.blob) c.columns-wanted.result wanted (sym c.is_running.ensures ∙ c.if-not-is_running.false) kept c.if-values-wanted.true

pub value_refused-refused-requires : goal.value_refused-refused-requires
value_refused-refused-requires g c =
    let wanted : c.columns-wanted.result ≡ length (layout_of c.args.self.now.schema).columns = rw length-map c.columns-wanted.ensures in
    (table-fits g.row.KNOTS g.row.SLOTS c.args.self.now.few_knots c.args.self.now.few_slots, c.if-values-wanted.false ∙ wanted)

pub returns-then-is_some-2 : goal.returns-then-is_some-2
returns-then-is_some-2 g c =
    let t = c.args.self.now in
    let blob = option_map (λ (b : Bor (List ℕ)). length b.now) c.args.blob in
    let e = c.value_refused-refused.ensures in
    let wanted : c.columns-wanted.result ≡ length (layout_of t.schema).columns = rw length-map c.columns-wanted.ensures in
    let kept = ap is_some (sym c.key_refused-refused.ensures) ∙ (sym c.is_some.ensures ∙ c.if-is_some.false) in
    behind t c.args.key c.args.values.now blob c.value_refused-refused.result
    (e ∙ refusing.by-value (value_refused t c.args.key c.args.values.now) (blob_refused t blob) (spent_refused t) (ap is_some (sym e) ∙ (sym c.is_some-2.ensures ∙ c.if-is_some-2.true)))
    (sym c.is_running.ensures ∙ c.if-not-is_running.false) kept (c.if-values-wanted.false ∙ wanted)

pub blob_refused-refused-requires : goal.blob_refused-refused-requires
blob_refused-refused-requires g c = table-fits g.row.KNOTS g.row.SLOTS c.args.self.now.few_knots c.args.self.now.few_slots

pub returns-then-is_some-3 : goal.returns-then-is_some-3
returns-then-is_some-3 g c =
    let t = c.args.self.now in
    let blob = option_map (λ (b : Bor (List ℕ)). length b.now) c.args.blob in
    let e = c.blob_refused-refused.ensures in
    let wanted : c.columns-wanted.result ≡ length (layout_of t.schema).columns = rw length-map c.columns-wanted.ensures in
    let kept = ap is_some (sym c.key_refused-refused.ensures) ∙ (sym c.is_some.ensures ∙ c.if-is_some.false) in
    behind t c.args.key c.args.values.now blob c.blob_refused-refused.result
    (e ∙ refusing.by-blob (value_refused t c.args.key c.args.values.now) (blob_refused t blob) (spent_refused t) (ap is_some (sym c.value_refused-refused.ensures) ∙ (sym c.is_some-2.ensures ∙ c.if-is_some-2.false))
    (ap is_some (sym e) ∙ (sym c.is_some-3.ensures ∙ c.if-is_some-3.true)))
    (sym c.is_running.ensures ∙ c.if-not-is_running.false) kept (c.if-values-wanted.false ∙ wanted)

pub spent_refused-requires : goal.spent_refused-requires
spent_refused-requires g c = table-fits g.row.KNOTS g.row.SLOTS c.args.self.now.few_knots c.args.self.now.few_slots

pub returns : goal.returns
returns g c =
    let t = c.args.self.now in
    let blob = option_map (λ (b : Bor (List ℕ)). length b.now) c.args.blob in
    let wanted : c.columns-wanted.result ≡ length (layout_of t.schema).columns = rw length-map c.columns-wanted.ensures in
    let kept = ap is_some (sym c.key_refused-refused.ensures) ∙ (sym c.is_some.ensures ∙ c.if-is_some.false) in
    behind t c.args.key c.args.values.now blob c.spent_refused.result
    (c.spent_refused.ensures ∙ refusing.by-spent (value_refused t c.args.key c.args.values.now) (blob_refused t blob) (spent_refused t)
    (ap is_some (sym c.value_refused-refused.ensures) ∙ (sym c.is_some-2.ensures ∙ c.if-is_some-2.false)) (ap is_some (sym c.blob_refused-refused.ensures) ∙ (sym c.is_some-3.ensures ∙ c.if-is_some-3.false)))
    (sym c.is_running.ensures ∙ c.if-not-is_running.false) kept (c.if-values-wanted.false ∙ wanted)
