-- The rows of a page, from one on.
use Rattle.std.proofs.Common.{◌≡◌, ℕ, zero, suc, ◌+◌, Some, List, ◌∷◌, length, drop, refl, ◌∙◌, ap}
use Rattle.std.specs.List.{slice_get}
use Rattle.std.proofs.lemmas.List.{drop_more}
use Rattle.std.proofs.lemmas.Option.{slice_get_within, get_or_from_slice_get}
use Rattle.fl_model.specs.Record.{RowLayout, layout_len}
use Rattle.fl_model.specs.Row.{Row}
use Rattle.fl_page.specs.Page.{rows_from}

pub length-rows_from : (n : ℕ) (layout : RowLayout) (bytes : List ℕ) → length (rows_from n layout bytes) ≡ n
length-rows_from zero layout bytes = refl
length-rows_from (suc n) layout bytes = ap suc (length-rows_from n layout (drop (layout_len layout) bytes))

pub drop-row : (rows : List Row) (i : ℕ) (row : Row) → slice_get rows i ≡ Some row → drop i rows ≡ row ∷ drop (i + 1) rows
drop-row rows i row e = drop_more rows i row (slice_get_within rows i row e) ∙ ap (λ r. r ∷ drop (i + 1) rows) (get_or_from_slice_get rows i row row e)
