use Rattle.std.proofs.Common.{◌≡◌, vec_len}
use Rattle.fl_flash.proofs.Blocks.{Noted}
use Rattle.fl_flash.proofs.block.note_blanks.Given as goal

abbrev pub invariant-loop-p : goal.invariant-loop-p
invariant-loop-p l = (vec_len l.flags ≡ vec_len l.initial.flags) × Noted l.initial.flags.items l.first l.p l.block l.size l.flags.items
