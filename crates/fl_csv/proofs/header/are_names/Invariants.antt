use Rattle.std.proofs.Common.{◌≡◌, ◌+◌, ◌<◌, ℕ, [], get_or, map}
use Rattle.fl_csv.proofs.Names.{column_name}
use Rattle.fl_csv.proofs.header.are_names.Given as goal

abbrev pub invariant-columns : goal.invariant-columns
invariant-columns l = record {
  names : (i : ℕ) → i < l.i → get_or (map (λ field. field.now) l.fields) (i + 1) [] ≡ column_name (i + 1);
}
