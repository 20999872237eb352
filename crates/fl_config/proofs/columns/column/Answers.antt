use Rattle.fl_config.proofs.Names.{column_named-is, column_or}
use Rattle.fl_config.proofs.columns.column.Goals as goal

pub returns : goal.returns
returns c =
    rw c.ok_or.ensures.value (column_or c.args.name.now c.from_name.result _ (column_named-is c.args.name.now c.from_name.result c.from_name.ensures))
