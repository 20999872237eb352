use Rattle.std.proofs.Common.{◌≡◌, ◌+◌, length, drop, map}
use Rattle.fl_csv.specs.Lines.{values_from}
use Rattle.fl_csv.proofs.Fields.{after, behind}
use Rattle.fl_csv.proofs.read.values.Given as goal

abbrev pub invariant-columns : goal.invariant-columns
invariant-columns l = record {
  count : length l.values.items ≡ l.i;
  means : values_from 2 (behind l.columns (map (λ field. field.now) l.fields)) ≡ after l.values.items (values_from (l.i + 2) (drop l.i (behind l.columns (map (λ field. field.now) l.fields))));
}
