-- A table with a log lies on its flash still after the power went off or came on, and where an operation is to be cut.
use Rattle.std.proofs.Common.{ℕ}
use Rattle.fl_flash.specs.Flash.{FlashState, StaysWith}
use Rattle.fl_table.proofs.ReadsKeepTable.{lies-moved}
use Rattle.fl_rlc.specs.Table.{LiesOn}
use Rattle.fl_rlc.specs.declared.table.LoggedTable.{LoggedTable}
use Rattle.fl_rlc.proofs.PutFrames.{log-lies}

pub lies-on : {KNOTS SLOTS : ℕ} {Power : Type 0} (t : LoggedTable KNOTS SLOTS) (f g : FlashState) → StaysWith Power f g → LiesOn t f → LiesOn t g
lies-on t f g goes h = record { table = lies-moved t.table f g goes h.table; log = log-lies t.log f g goes h.log }
