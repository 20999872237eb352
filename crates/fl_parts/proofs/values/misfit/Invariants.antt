use Rattle.std.proofs.Common.{◌≡◌, ◌+◌, drop}
use Rattle.fl_model.specs.Record.{first_misfit}
use Rattle.fl_schema.specs.Schema.{layout_of}
use Rattle.fl_parts.proofs.values.misfit.Given as goal

abbrev pub invariant-loop-i : goal.invariant-loop-i
invariant-loop-i l =
    first_misfit 1 (layout_of l.schema).columns l.values ≡ first_misfit (l.i + 1) (drop l.i (layout_of l.schema).columns) (drop l.i l.values)
