use Rattle.fl_parts.proofs.Sizes.{schema-fits}
use Rattle.fl_table.proofs.table.Table.is_full.Goals as goal

pub is_full-requires : goal.is_full-requires
is_full-requires g c = schema-fits

pub returns : goal.returns
returns g c = record { room = c.is_full.ensures.room }
