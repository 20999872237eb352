use Rattle.std.proofs.Common.{◌≡◌, ◌≤◌, ◌<◌, ℕ, Bool, Option, Some, length, nat_lt, option_map, sym, ◌∙◌, ap, subst}
use Rattle.std.specs.Prelude.{if◌then◌else◌}
use Rattle.std.proofs.lemmas.List.{length-map}
use Rattle.std.proofs.lemmas.Bool.{lt-ltb, le-ltb}
use Rattle.fl_model.specs.Record.{first_misfit, greatest_key}
use Rattle.fl_schema.specs.Schema.{layout_of, types_of}
use Rattle.fl_table.specs.declared.faults.PutRefusal.{PutRefusal}
use Rattle.fl_table.specs.declared.faults.PutRefusal.TheVariants.{Value}
use Rattle.fl_parts.proofs.Sizes.{schema-fits}
use Rattle.fl_table.proofs.table.Table.value_refused.Goals as goal

-- the key fits ..
within : (greatest key : ℕ) (rest : Option PutRefusal) → key ≤ greatest → rest ≡ (if nat_lt greatest key then Some (Value 0) else rest)
within greatest key rest le = ap (λ (b : Bool). if b then Some (Value 0) else rest) (sym (le-ltb greatest key le))

-- .. or not
beyond : (greatest key : ℕ) (rest : Option PutRefusal) → greatest < key → Some (Value 0) ≡ (if nat_lt greatest key then Some (Value 0) else rest)
beyond greatest key rest lt = ap (λ (b : Bool). if b then Some (Value 0) else rest) (sym (lt-ltb greatest key lt))

pub key_limit-requires : goal.key_limit-requires
key_limit-requires g c = schema-fits

pub returns-then-key-key_limit : goal.returns-then-key-key_limit
returns-then-key-key_limit g c =
    let layout = layout_of c.args.self.now.schema in
    beyond (greatest_key layout) c.args.key (option_map (λ column. Value column) (first_misfit 1 layout.columns c.args.values.now)) (subst (λ (n : ℕ). n < c.args.key) c.key_limit.ensures c.if-key-key_limit.true)

pub misfit-requires-clause-as_many : goal.misfit-requires-clause-as_many
misfit-requires-clause-as_many g c = rw length-map at c.requires

pub misfit-requires-clause-few : goal.misfit-requires-clause-few
misfit-requires-clause-few g c =
    let as_many : length c.args.values.now ≡ length (types_of c.args.self.now.schema) = rw length-map at c.requires in
    subst (λ (n : ℕ). n ≤ 8) (sym as_many) c.args.self.now.few_columns

pub returns-in_err-column : goal.returns-in_err-column
returns-in_err-column g c =
    let layout = layout_of c.args.self.now.schema in
    let told = λ (column : Option ℕ). option_map (λ column. Value column) column in
    c.from_residual.ensures ∙ (ap told c.in_err-column.ensures
    ∙ within (greatest_key layout) c.args.key (told (first_misfit 1 layout.columns c.args.values.now)) (subst (λ (n : ℕ). c.args.key ≤ n) c.key_limit.ensures c.if-key-key_limit.false))

pub returns : goal.returns
returns g c =
    let layout = layout_of c.args.self.now.schema in
    let told = λ (column : Option ℕ). option_map (λ column. Value column) column in
    ap told c.in_ok-column.ensures
    ∙ within (greatest_key layout) c.args.key (told (first_misfit 1 layout.columns c.args.values.now)) (subst (λ (n : ℕ). c.args.key ≤ n) c.key_limit.ensures c.if-key-key_limit.false)
