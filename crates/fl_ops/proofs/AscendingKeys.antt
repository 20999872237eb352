-- Records whose keys ascend above one.
use Rattle.std.proofs.Common.{ℕ, ◌<◌, List, [], ◌∷◌, Some}
use Rattle.std.proofs.lemmas.Bool.{ltb-true}
use Rattle.fl_model.specs.Record.{Record}
use Rattle.fl_model.specs.Row.{Row}
use Rattle.fl_page.specs.Steps.{Ascends}
use Rattle.fl_ops.specs.Columns.{records_of}

abbrev pub Climbs : ℕ → List Record → Type 0
Climbs key [] = Unit {0}
Climbs key (item ∷ items) = (key < item.key) × Climbs item.key items

pub Climbs-rows : (key : ℕ) (rows : List Row) → Ascends (Some key) rows → Climbs key (records_of rows)
Climbs-rows key [] ascends = tt
Climbs-rows key (row ∷ rows) ascends = (ltb-true key row.key ascends.0, Climbs-rows row.key rows ascends.1)
