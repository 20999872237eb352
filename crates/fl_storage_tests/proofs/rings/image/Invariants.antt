use Rattle.std.proofs.Common.{◌≡◌, vec_len}
use Rattle.fl_storage_tests.proofs.rings.image.Given as goal

abbrev pub invariant-loop-i : goal.invariant-loop-i
invariant-loop-i l = vec_len l.bytes ≡ 512
