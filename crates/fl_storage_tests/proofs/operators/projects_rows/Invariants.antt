use Rattle.std.proofs.Common.{◌≡◌, [], ◌∷◌}
use Rattle.fl_ops.specs.Project.{columns_of}
use Rattle.fl_storage_tests.proofs.operators.projects_rows.Given as goal

abbrev pub invariant-loop-value : goal.invariant-loop-value
invariant-loop-value g l = columns_of l.fields ≡ 1 ∷ 0 ∷ []
