-- The rows of a page from one on.
use Rattle.std.proofs.Common.{ℕ, ◌≡◌, ◌+◌, ◌≤◌, true, List, [], drop, Option, Some, subst, arith}
use Rattle.std.specs.List.{slice_get}
use Rattle.std.proofs.lemmas.List.{drop_all}
use Rattle.fl_model.specs.Record.{RowLayout}
use Rattle.fl_model.specs.Row.{Row}
use Rattle.fl_model.specs.Query.{is_above}
use Rattle.fl_page.specs.Page.{rows_from}
use Rattle.fl_page.specs.Steps.{Ascends}
use Rattle.fl_page.proofs.RowsFrom.{length-rows_from, drop-row}

-- none is left past the last one
pub rows_from-end : (n : ℕ) (layout : RowLayout) (bytes : List ℕ) (i : ℕ) → n ≤ i → drop i (rows_from n layout bytes) ≡ []
rows_from-end n layout bytes i past = drop_all i (rows_from n layout bytes) (omega (arith, length-rows_from n layout bytes, past))

pub Ascends-first : (above : Option ℕ) (rows : List Row) (i : ℕ) (row : Row) → slice_get rows i ≡ Some row → Ascends above (drop i rows)
    → (is_above above row.key ≡ true) × Ascends (Some row.key) (drop (i + 1) rows)
Ascends-first above rows i row is ascends =
    let P : List Row → Type 0 = λ left. Ascends above left in subst P (drop-row rows i row is) ascends
