use Rattle.fl_frame.proofs.CallsInTurn.{goes-then}
use Rattle.fl_frame.proofs.WatchedInTurn.{cause-later, never-lost, unarmed-then}
use Rattle.fl_frame.proofs.laws.unarmed_flash_loses_no_power.Goals as goal

pub returns : goal.returns
returns c = record { in_turn = goes-then; caused = cause-later; stays = unarmed-then; never = never-lost }
