-- The commands that list what an operator makes of a range.
use Rattle.std.specs.Prelude.{ℕ, List}
use Rattle.fl_base.specs.declared.types.KeyRange.{KeyRange}
use Rattle.fl_words.specs.Command as words
use Rattle.fl_words.specs.Command.{Command}
use Rattle.fl_queries.specs.declared.operators.Operator.{Operator}
use Rattle.fl_queries.specs.declared.operators.Operator.TheVariants.{Select, Project, Aggregate}

abbrev pub command_by : Operator → List ℕ → KeyRange → Command
command_by (Select comparison) name range = words.Select name range comparison.column comparison.op comparison.value
command_by (Project columns) name range = words.Project name range columns.now
command_by (Aggregate column width) name range = words.Agg name range column width
