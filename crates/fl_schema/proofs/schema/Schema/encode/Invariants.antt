use Rattle.std.proofs.Common.{length}
use Rattle.fl_model.specs.Row.{le}
use Rattle.fl_schema.specs.Form.{key_width}
use Rattle.fl_schema.proofs.RowColumns.{Written}
use Rattle.fl_schema.proofs.schema.Schema.encode.Given as goal

abbrev pub invariant-loop-i : goal.invariant-loop-i
invariant-loop-i g l = Written (length l.fn.into) (le (key_width l.self.key) l.key) l.self.columns.items l.values l.i l.into
