use Rattle.fl_model.proofs.Among.{performs-at, seals-at}
use Rattle.fl_model.proofs.tables_perform.Goals as goal

pub returns : goal.returns
returns c = record { performs = performs-at; seals = seals-at }
