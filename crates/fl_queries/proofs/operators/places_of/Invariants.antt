use Rattle.std.proofs.Common.{◌≡◌, take}
use Rattle.fl_queries.proofs.operators.places_of.Given as goal

abbrev pub invariant-loop-column : goal.invariant-loop-column
invariant-loop-column l = l.places.items ≡ take l.column-index l.columns
