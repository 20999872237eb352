-- What clauses see of a projection.
use Rattle.std.specs.Prelude.{ℕ, ℤ, List, map}
use Rattle.fl_model.specs.Row.{Row}
use Rattle.fl_model.specs.Operators.{column_of}
use Rattle.fl_ops.specs.Columns.{record_of}
use Rattle.fl_ops.specs.declared.project.Project.{Project}

abbrev pub input_of : {R : Type 0} {g : _} → Project R g → R
input_of project = project.rows

abbrev pub columns_of : {R : Type 0} {g : _} → Project R g → List ℕ
columns_of project = project.columns.now

-- the fields of a row
abbrev pub fields_of : List ℕ → Row → List ℤ
fields_of columns row = map (column_of (record_of row)) columns
