-- What clauses see of a selection.
use Rattle.fl_ops.specs.Columns.{Comparison}
use Rattle.fl_ops.specs.declared.select.Select.{Select}

abbrev pub input_of : {R : Type 0} {g : _} → Select R g → R
input_of select = select.rows

abbrev pub comparison_of : {R : Type 0} {g : _} → Select R g → Comparison
comparison_of select = record { column = select.column; op = select.op; value = select.value }
