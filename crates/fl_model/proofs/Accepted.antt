-- What an accepted record is to its table.
use Rattle.std.proofs.Common.{◌≡◌, ℕ, ◌<◌, ◌≤◌, Bool, true, false, cond, not, ◌&&◌, ◌||◌, ◌==◌, nat_lt, nat_le, Option, Some, None, is_some, IsTrue, List, length, refl, sym, subst, arith}
use Rattle.std.proofs.lemmas.Bool.{ltb-false, leb-false, eqb-true, not-false}
use Rattle.std.specs.List.{last_or}
use Rattle.std.specs.Option.{option_map, unwrap_or}
use Rattle.std.proofs.lemmas.Option.{none-some}
use Rattle.fl_model.specs.Record.{Record, Plan, has_var, key_limit, first_misfit}
use Rattle.fl_model.specs.Table.{Table, Entry, blob_len, refusal_of, Refusal, BadKey, BadColumns, BadValue, BadBlob, Spent, first_of as or_else, refuse_if, key_refusal, value_refusal, blob_refusal, is_spent, is_rows_spent, is_ring_spent, spent_from, last_entry}

neither : (a b : Option Refusal) → or_else a b ≡ None → (a ≡ None) × (b ≡ None)
neither None b e = (refl, e)
neither (Some r) b e = absurd (none-some r (sym e))

not_refused : (b : Bool) (r : Refusal) → refuse_if b r ≡ None → b ≡ false
not_refused true r e = absurd (none-some r (sym e))
not_refused false r e = refl

pub record IsAccepted (plan : Plan) (table : Table) (item : Record) : Type 0 where
  pub above : (last : Entry) → last_or None table.entries ≡ Some last → last.kept.key < item.key
  pub key : item.key ≤ key_limit plan
  pub as_many : length item.values ≡ length plan.columns
  pub values : first_misfit 1 plan.columns item.values ≡ None
  pub blob : (bytes : List ℕ) → item.blob ≡ Some bytes → IsTrue (has_var plan) × (length bytes ≤ plan.blob_limit)
  pub left : table.rows.next < spent_from
  pub unspent : is_rows_spent table ≡ false

pub accepted : (plan : Plan) (table : Table) (item : Record) → refusal_of plan table item ≡ None → IsAccepted plan table item
accepted plan table item h =
    let a = neither (key_refusal table item.key) _ h in
    let b = neither (refuse_if (not (length item.values == length plan.columns)) (BadColumns (length plan.columns))) _ a.1 in
    let c = neither (value_refusal plan item) _ b.1 in
    let d = neither (blob_refusal plan item) _ c.1 in
    let v = by_limit (nat_lt (key_limit plan) item.key) refl c.0 in
    record {
      above = above (last_entry table) a.0;
      key = omega (arith, ltb-false (key_limit plan) item.key v.0);
      as_many = eqb-true (length item.values) (length plan.columns) (not-false (length item.values == length plan.columns) (not_refused (not (length item.values == length plan.columns)) (BadColumns (length plan.columns)) b.0));
      values = v.1;
      blob = λ bytes e. with_blob bytes (has_var plan) refl
          (subst (λ (o : Option (List ℕ)). (is_some o && (not (has_var plan) || nat_lt (cond (has_var plan) plan.blob_limit 0) (unwrap_or (option_map (λ (xs : List ℕ). length xs) o) 0))) ≡ false) e
          (not_refused (is_some item.blob && (not (has_var plan) || nat_lt (cond (has_var plan) plan.blob_limit 0) (blob_len item))) (BadBlob (cond (has_var plan) plan.blob_limit 0)) d.0));
      left = let n = or_left (nat_le spent_from table.rows.next) (is_ring_spent table.index) (rows_left d.1) in omega (arith, leb-false spent_from table.rows.next n);
      unspent = rows_left d.1;
    }
  where
    or_left : (a b : Bool) → (a || b) ≡ false → a ≡ false
    or_left true b e = cc
    or_left false b e = refl

    rows_left : refuse_if (is_spent table) Spent ≡ None → is_rows_spent table ≡ false
    rows_left e =
        or_left (is_rows_spent table) (is_ring_spent table.var) (or_left (is_rows_spent table || is_ring_spent table.var) (is_ring_spent table.log) (not_refused (is_spent table) Spent e))

    above : (o : Option Entry) → unwrap_or (option_map (λ last. refuse_if (nat_le item.key last.kept.key) (BadKey last.kept.key)) o) None ≡ None → (last : Entry) → o ≡ Some last → last.kept.key < item.key
    above None e last k = absurd (none-some last k)
    above (Some x) e last k =
        let less : x.kept.key < item.key = let n = not_refused (nat_le item.key x.kept.key) (BadKey x.kept.key) e in omega (arith, leb-false item.key x.kept.key n) in
        let same : x ≡ last = cc in
        subst (λ (y : Entry). y.kept.key < item.key) same less

    by_limit : (b : Bool) → nat_lt (key_limit plan) item.key ≡ b → cond b (Some (BadValue 0)) (option_map (λ column. BadValue column) (first_misfit 1 plan.columns item.values)) ≡ None →
        (nat_lt (key_limit plan) item.key ≡ false) × (first_misfit 1 plan.columns item.values ≡ None)
    by_limit true k e = absurd (none-some (BadValue 0) (sym e))
    by_limit false k e = (k, no_misfit (first_misfit 1 plan.columns item.values) e)
      where
        no_misfit : (o : Option ℕ) → option_map (λ column. BadValue column) o ≡ None → o ≡ None
        no_misfit None e = refl
        no_misfit (Some n) e = absurd (none-some (BadValue n) (sym e))

    with_blob : (bytes : List ℕ) (v : Bool) → has_var plan ≡ v → (true && (not v || nat_lt (cond v plan.blob_limit 0) (length bytes))) ≡ false → IsTrue (has_var plan) × (length bytes ≤ plan.blob_limit)
    with_blob bytes true e k = (e, let n = ltb-false plan.blob_limit (length bytes) k in omega (arith, n))
    with_blob bytes false e k = cc
