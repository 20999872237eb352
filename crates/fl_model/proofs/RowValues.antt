-- The values of a row are as many as its columns.
use Rattle.std.proofs.Common.{◌≡◌, ℕ, List, [], ◌∷◌, length, drop, refl, ap, suc}
use Rattle.fl_model.specs.Record.{Column}
use Rattle.fl_model.specs.Row.{values_in}

pub length-values_in : (columns : List Column) (bytes : List ℕ) → length (values_in columns bytes) ≡ length columns
length-values_in [] bytes = refl
length-values_in (column ∷ columns) bytes = ap suc (length-values_in columns (drop column.width bytes))
