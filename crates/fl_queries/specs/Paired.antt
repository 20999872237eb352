-- The pairs of rows of two tables, as lines.
use Rattle.std.specs.Prelude.{List, map}
use Rattle.fl_machine.specs.Step.{pair_reply}
use Rattle.fl_model.specs.Operators.{key_join}
use Rattle.fl_model.specs.Row.{Row}
use Rattle.fl_ops.specs.Columns.{records_of}
use Rattle.fl_words.specs.Reply.{Reply}

-- a line for each pair of these rows that have one key
abbrev pub pair_lines : List Row → List Row → List Reply
pair_lines left right = map pair_reply (key_join (records_of left) (records_of right))
