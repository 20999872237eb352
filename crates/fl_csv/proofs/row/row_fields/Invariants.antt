use Rattle.std.proofs.Common.{◌≡◌, length, map, take}
use Rattle.csv.specs.Records.{fields_of}
use Rattle.fl_csv.proofs.row.row_fields.Given as goal

abbrev pub invariant-fields : goal.invariant-fields
invariant-fields l = record {
  count : length l.fields.items ≡ l.i;
  fields : map (λ field. field.now) l.fields.items ≡ take l.i (fields_of l.row);
}
