-- One row more of those that are searched.
use Rattle.std.proofs.Common.{◌≡◌, ℕ, ◌+◌, ◌≤◌, true, false, cond, Some, List, length, drop, sym, ◌∙◌, ap, subst, arith}
use Rattle.std.specs.List.{slice_get}
use Rattle.std.proofs.lemmas.List.{drop_all, length-map}
use Rattle.fl_model.specs.Query.{Cursor}
use Rattle.fl_model.specs.Record.{RowLayout}
use Rattle.fl_model.specs.Row.{Row}
use Rattle.fl_page.specs.Page.{rows_from}
use Rattle.fl_page.proofs.RowsFrom.{drop-row, length-rows_from}
use Rattle.fl_schema.specs.Types.{column_of}
use Rattle.fl_schema.specs.Schema.{types_of}
use Rattle.fl_table.specs.Look.{layout_in}
use Rattle.fl_table.specs.declared.table.Table.{Table}
use Rattle.fl_cursor.specs.Asked.{is_left, is_last}
use Rattle.fl_cursor.specs.Sought.{first_left}
use Rattle.fl_cursor.specs.declared.search.Sought.TheVariants.{Row as At, Behind, Nowhere}

-- rows that have this layout have a value
pub some-columns : {KNOTS SLOTS : ℕ} (t : Table KNOTS SLOTS) (layout : RowLayout) → layout ≡ layout_in t → 1 ≤ length layout.columns
some-columns t layout is = subst (λ (l : RowLayout). 1 ≤ length l.columns) (sym is) (subst (λ n. 1 ≤ n) (sym (length-map (types_of t.schema) column_of)) t.some_columns)

-- the row at a place is searched first
first-at : (asked : Cursor) (rows : List Row) (i : ℕ) (row : Row) → slice_get rows i ≡ Some row →
    first_left asked (drop i rows) i ≡ cond (is_left asked row) (At i) (cond (is_last asked.top row.key) Nowhere (first_left asked (drop (i + 1) rows) (i + 1)))
first-at asked rows i row is = ap (λ (xs : List Row). first_left asked xs i) (drop-row rows i row is)

-- it is left, it is the last one, or the next one is searched
pub first-taken : (asked : Cursor) (rows : List Row) (i : ℕ) (row : Row) → slice_get rows i ≡ Some row → is_left asked row ≡ true → first_left asked (drop i rows) i ≡ At i
first-taken asked rows i row is left = first-at asked rows i row is ∙ ap (λ b. cond b (At i) (cond (is_last asked.top row.key) Nowhere (first_left asked (drop (i + 1) rows) (i + 1)))) left

pub first-last : (asked : Cursor) (rows : List Row) (i : ℕ) (row : Row) → slice_get rows i ≡ Some row → is_left asked row ≡ false → is_last asked.top row.key ≡ true → first_left asked (drop i rows) i ≡ Nowhere
first-last asked rows i row is left last =
    first-at asked rows i row is
    ∙ (ap (λ b. cond b (At i) (cond (is_last asked.top row.key) Nowhere (first_left asked (drop (i + 1) rows) (i + 1)))) left
    ∙ ap (λ b. cond b Nowhere (first_left asked (drop (i + 1) rows) (i + 1))) last)

pub first-next : (asked : Cursor) (rows : List Row) (i : ℕ) (row : Row) → slice_get rows i ≡ Some row → is_left asked row ≡ false → is_last asked.top row.key ≡ false →
    first_left asked (drop i rows) i ≡ first_left asked (drop (i + 1) rows) (i + 1)
first-next asked rows i row is left last =
    first-at asked rows i row is
    ∙ (ap (λ b. cond b (At i) (cond (is_last asked.top row.key) Nowhere (first_left asked (drop (i + 1) rows) (i + 1)))) left
    ∙ ap (λ b. cond b Nowhere (first_left asked (drop (i + 1) rows) (i + 1))) last)

-- no row is left behind the last place
pub first-end : (asked : Cursor) (n : ℕ) (layout : RowLayout) (bytes : List ℕ) (i : ℕ) → n ≤ i → first_left asked (drop i (rows_from n layout bytes)) i ≡ Behind
first-end asked n layout bytes i past = ap (λ (xs : List Row). first_left asked xs i) (drop_all i (rows_from n layout bytes) (omega (arith, length-rows_from n layout bytes, past)))

pub ruleset searching = (first-taken, first-last, first-next, first-end)
