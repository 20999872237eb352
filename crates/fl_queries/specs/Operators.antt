-- What an operator over a range of keys asks for, and the lines that it lists.
use Rattle.std.specs.Prelude.{ℕ, ◌≤◌, None, List, [], ◌∷◌, length, map}
use Rattle.std.specs.List.{AllByRecursion}
use Rattle.fl_base.specs.declared.types.KeyRange.{KeyRange}
use Rattle.fl_cursor.specs.Asked.{above_range}
use Rattle.fl_machine.specs.Step.{note_of, group_reply}
use Rattle.fl_model.specs.Operators as operators
use Rattle.fl_model.specs.Record.{Plan, Record}
use Rattle.fl_words.specs.Reply.{Reply, Fields}
use Rattle.fl_queries.specs.ListSays.{IsFields, IsGroup}
use Rattle.fl_queries.specs.Rising.{AreRising, IsRow}
use Rattle.fl_queries.specs.declared.operators.Operator.{Operator}
use Rattle.fl_queries.specs.declared.operators.Operator.TheVariants.{Select, Project, Aggregate}

-- its columns
abbrev pub columns_by : Operator → List ℕ
columns_by (Select comparison) = comparison.column ∷ []
columns_by (Project columns) = columns.now
columns_by (Aggregate column width) = column ∷ []

-- it lists no more columns than a row has values, and its groups have a width
abbrev pub IsFit : Operator → Type 0
IsFit (Select comparison) = Unit {0}
IsFit (Project columns) = length columns.now ≤ 8
IsFit (Aggregate column width) = 1 ≤ width

-- what it makes of these records of a table with this plan
abbrev pub lines_by : Operator → Plan → List Record → List Reply
lines_by (Select comparison) plan items = map (note_of plan) (operators.select comparison.column comparison.op comparison.value items)
lines_by (Project columns) plan items = map Fields (operators.project columns.now items)
lines_by (Aggregate column width) plan items = map group_reply (operators.aggregate column width items)

-- what its lines of a range are, over any bytes
abbrev pub AreLinesBy : Operator → KeyRange → List Reply → Type 0
AreLinesBy (Select comparison) range = AreRising IsRow (above_range range.low None)
AreLinesBy (Project columns) range = AllByRecursion (IsFields (length columns.now))
AreLinesBy (Aggregate column width) range = AllByRecursion IsGroup
