-- A table that runs refuses no record as one that was stopped, over any bytes.
use Rattle.std.proofs.Common.{◌≡◌, ℕ, Bool, true, false, cond, not, ◌||◌, ◌==◌, nat_le, nat_lt, Option, Some, None, Result, Err, is_some, option_map, unwrap_or, List, length, subst, ℤ}
use Rattle.fl_model.specs.Record.{first_misfit, greatest_key}
use Rattle.fl_model.specs.Table.{spent_from}
use Rattle.fl_ring.specs.Place.{next_of}
use Rattle.fl_rlc.specs.Memory as log
use Rattle.fl_rlc.specs.Refusal.{log_refused, put_refusal}
use Rattle.fl_rlc.specs.Table.{is_running}
use Rattle.fl_rlc.specs.declared.log.RecordLog.{RecordLog}
use Rattle.fl_rlc.specs.declared.table.LoggedTable.{LoggedTable}
use Rattle.fl_schema.specs.Schema.{layout_of}
use Rattle.fl_parts.specs.Bitmaps as bitmaps
use Rattle.fl_parts.specs.Blobs as variable
use Rattle.fl_table.specs.Refusal as table
use Rattle.fl_table.specs.Refusal.{RefusesAs, blob_refused, key_refused, limit_in, or_else, refused_if, spent_refused, value_refused}
use Rattle.fl_table.specs.declared.faults.PutRefusal.{PutRefusal}
use Rattle.fl_table.specs.declared.faults.PutRefusal.TheVariants.{Key, Columns, Value, Blob, Spent, Stopped}
use Rattle.fl_table.specs.declared.table.Table.{Table}

abbrev IsUnstopped : Option PutRefusal → Type 0
IsUnstopped (Some Stopped) = ⊥
IsUnstopped refusal = Unit {0}

either : (a b : Option PutRefusal) → IsUnstopped a → IsUnstopped b → IsUnstopped (or_else a b)
either None b h k = k
either (Some r) b h k = h

if-so : (b : Bool) (r : PutRefusal) → IsUnstopped (Some r) → IsUnstopped (refused_if b r)
if-so true r h = h
if-so false r h = tt

if-running : (b : Bool) → b ≡ true → IsUnstopped (refused_if (not b) Stopped)
if-running true e = tt
if-running false e = absurd (cc e)

by-key : (o : Option ℕ) (key : ℕ) → IsUnstopped (key_refused o key)
by-key None key = tt
by-key (Some last) key = if-so (nat_le key last) (Key last) tt

by-log : (o : Option RecordLog) → IsUnstopped (log_refused o)
by-log None = tt
by-log (Some l) = if-so (nat_le spent_from (log.next_in l)) Spent tt

module _ (t : Table 64 64) (key : ℕ) (values : List ℤ) where
  by-value : IsUnstopped (value_refused t key values)
  by-value = by_limit (nat_lt (greatest_key (layout_of t.schema)) key)
    where
      columns : (o : Option ℕ) → IsUnstopped (option_map (λ column. Value column) o)
      columns None = tt
      columns (Some n) = tt

      by_limit : (b : Bool) → IsUnstopped (cond b (Some (Value 0)) (option_map (λ column. Value column) (first_misfit 1 (layout_of t.schema).columns values)))
      by_limit true = tt
      by_limit false = columns (first_misfit 1 (layout_of t.schema).columns values)

  by-blob : (o : Option ℕ) → IsUnstopped (blob_refused t o)
  by-blob None = tt
  by-blob (Some len) = if-so (not (is_some t.blobs) || nat_lt (limit_in t) len) (Blob (limit_in t)) tt

  by-pages : IsUnstopped (spent_refused t)
  by-pages = if-so (unwrap_or (option_map (λ ring. nat_le spent_from (next_of ring)) t.ring) false || nat_le spent_from (bitmaps.next_of t.bitmaps) || nat_le spent_from (variable.next_of t.blobs)) Spent tt

  by-table : (blob : Option ℕ) → is_some t.ring ≡ true → IsUnstopped (table.put_refusal t key values blob)
  by-table blob runs =
      either (refused_if (not (is_some t.ring)) Stopped) _ (if-running (is_some t.ring) runs)
      (either (key_refused t.last_key key) _ (by-key t.last_key key)
      (either (refused_if (not (length values == length (layout_of t.schema).columns)) (Columns (length (layout_of t.schema).columns))) _ (if-so (not (length values == length (layout_of t.schema).columns)) (Columns (length (layout_of t.schema).columns)) tt)
      (either (value_refused t key values) _ by-value (either (blob_refused t blob) (spent_refused t) (by-blob blob) by-pages))))

refuses-other : (o : Option PutRefusal) → IsUnstopped o → RefusesAs o (Err Stopped) → ⊥
refuses-other None h is = is
refuses-other (Some r) h is = subst (λ (x : PutRefusal). IsUnstopped (Some x)) (same is) h
  where
    same : ◌≡◌ {A = Result (Unit {0}) PutRefusal} (Err Stopped) (Err r) → r ≡ Stopped
    same e = cc

pub runs-on : (t : LoggedTable 64 64) (key : ℕ) (values : List ℤ) (blob : Option ℕ) → is_running t ≡ true → RefusesAs (put_refusal t key values blob) (Err Stopped) → ⊥
runs-on t key values blob runs is =
    refuses-other (put_refusal t key values blob) (either (table.put_refusal t.table key values blob) (log_refused t.log) (by-table t.table key values blob runs) (by-log t.log)) is
