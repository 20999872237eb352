-- Why a table in memory refuses a record.
use Rattle.std.specs.Prelude.{◌≡◌, ℕ, Bool, false, is_some, not, ◌||◌, nat_le, nat_lt, ◌==◌, ℤ, Option, Some, None, option_map, unwrap_or, Result, Ok, Err, List, length, if◌then◌else◌}
use Rattle.fl_model.specs.Record.{first_misfit, greatest_key}
use Rattle.fl_model.specs.Table.{spent_from}
use Rattle.fl_ring.specs.Place.{next_of}
use Rattle.fl_schema.specs.Schema.{layout_of}
use Rattle.fl_table.specs.declared.table.Table.{Table}
use Rattle.fl_parts.specs.Bitmaps as bitmaps
use Rattle.fl_parts.specs.Blobs as variable
use Rattle.fl_table.specs.Memory.{is_running}
use Rattle.fl_table.specs.declared.faults.PutRefusal.{PutRefusal}
use Rattle.fl_table.specs.declared.faults.PutRefusal.TheVariants.{Key, Columns, Value, Blob, Spent, Stopped, Flash}

-- the first refusal of two
abbrev pub or_else : Option PutRefusal → Option PutRefusal → Option PutRefusal
or_else None other = other
or_else (Some refusal) other = Some refusal

abbrev pub refused_if : Bool → PutRefusal → Option PutRefusal
refused_if b refusal = if b then Some refusal else None

abbrev pub key_refused : Option ℕ → ℕ → Option PutRefusal
key_refused None key = None
key_refused (Some last) key = refused_if (nat_le key last) (Key last)

abbrev pub value_refused : {KNOTS SLOTS : ℕ} → Table KNOTS SLOTS → ℕ → List ℤ → Option PutRefusal
value_refused t key values =
    if nat_lt (greatest_key (layout_of t.schema)) key then Some (Value 0)
    else option_map (λ column. Value column) (first_misfit 1 (layout_of t.schema).columns values)

abbrev pub spent_refused : {KNOTS SLOTS : ℕ} → Table KNOTS SLOTS → Option PutRefusal
spent_refused t =
    refused_if (unwrap_or (option_map (λ ring. nat_le spent_from (next_of ring)) t.ring) false || nat_le spent_from (bitmaps.next_of t.bitmaps) || nat_le spent_from (variable.next_of t.blobs)) Spent

-- the greatest length of a blob
abbrev pub limit_in : {KNOTS SLOTS : ℕ} → Table KNOTS SLOTS → ℕ
limit_in t = if is_some t.blobs then t.blob_limit else 0

-- a blob of this length, or none
abbrev pub blob_refused : {KNOTS SLOTS : ℕ} → Table KNOTS SLOTS → Option ℕ → Option PutRefusal
blob_refused t None = None
blob_refused t (Some len) = refused_if (not (is_some t.blobs) || nat_lt (limit_in t) len) (Blob (limit_in t))

-- the first refusal that applies to a record with these values, and with a blob of this length or without one
abbrev pub put_refusal : {KNOTS SLOTS : ℕ} → Table KNOTS SLOTS → ℕ → List ℤ → Option ℕ → Option PutRefusal
put_refusal t key values blob =
    or_else (refused_if (not (is_running t)) Stopped)
    (or_else (key_refused t.last_key key)
    (or_else (refused_if (not (length values == length (layout_of t.schema).columns)) (Columns (length (layout_of t.schema).columns)))
    (or_else (value_refused t key values)
    (or_else (blob_refused t blob)
    (spent_refused t)))))

-- what is answered: the first refusal where one applies, else how the operations went
abbrev pub RefusesAs : Option PutRefusal → Result (Unit {0}) PutRefusal → Type 0
RefusesAs None (Ok done) = Unit {0}
RefusesAs None (Err (Flash fault)) = Unit {0}
RefusesAs None (Err _) = ⊥
RefusesAs (Some refusal) result = result ≡ Err refusal
