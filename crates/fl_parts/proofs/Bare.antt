-- A table without a log.
use Rattle.std.proofs.Common.{◌≡◌, ◌≤◌, cond, nat_lt, Option, None, List, [], ◌∷◌, ◌++◌, length, filter, inl, sym, ◌∙◌, ap, subst}
use Rattle.std.specs.List.{AllByRecursion}
use Rattle.fl_model.specs.Record.{Plan}
use Rattle.fl_model.specs.Ring.{Ring}
use Rattle.fl_model.specs.Table.{Table, Entry, has_rows, log_pages, owed, is_after, written}
use Rattle.fl_model.specs.Log.{IsLog, last_key}
use Rattle.fl_model.specs.Facts.{IsTable, counts_in}
use Rattle.fl_model.proofs.SomeRing.{no-ring}
use Rattle.fl_model.proofs.Lists.{nil_front, nil_map}

abbrev pub IsBare : Table → Type 0
IsBare table = (table.log ≡ None) × (table.logged ≡ []) × (table.logged_before ≡ [])

-- .. as its plan says
pub bare-table : (plan : Plan) (table : Table) → plan.log_blocks ≡ 0 → IsTable plan table → IsBare table
bare-table plan table unlogged h = (none, h.logged_some (ap has_rows none), nil_front table.logged_before (cond (has_rows table.log) (table.logged ∷ []) []) (nil_map (λ (rows : List Entry). length rows) (log_pages table) (h.log_each ∙ ap (λ (o : Option Ring). filter (nat_lt 0) (counts_in o)) none)))
  where
    none : table.log ≡ None
    none = no-ring table.log (h.has_rings.2 ∙ ap (nat_lt 0) unlogged)

-- so it keeps no page of a log
pub bare-pages : (table : Table) → IsBare table → log_pages table ≡ []
bare-pages table h =
    ap (λ (o : Option Ring). table.logged_before ++ (cond (has_rows o) (table.logged ∷ []) [])) h.0 ∙ ap (λ (ps : List (List Entry)). ps ++ []) h.2

pub bare-log : (table : Table) → IsBare table → IsLog table
bare-log table h = record {
  ascending = subst (λ (es : List Entry). AllByRecursion (λ (entry : Entry). entry.kept.key ≤ last_key table.logged) es) (sym h.1) tt;
  whole = inl (none ∙ sym h.1);
  safe = λ some. absurd (some none);
}
  where
    none : owed table ≡ []
    none = ap (λ (es : List Entry). filter (λ entry. is_after (written table) entry) es) h.1
