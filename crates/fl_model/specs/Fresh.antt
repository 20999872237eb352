-- A law on new tables: what holds of a table between two runs holds of an empty one.
use Rattle.fl_model.specs.Record.{Plan}
use Rattle.fl_model.specs.Table.{fresh_table}
use Rattle.fl_model.specs.Facts.{IsSettled}

abbrev pub NewTablesStand : Type 0
NewTablesStand = (plan : Plan) → IsSettled plan (fresh_table plan)
