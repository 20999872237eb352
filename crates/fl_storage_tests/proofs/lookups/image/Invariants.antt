use Rattle.std.proofs.Common.{◌≡◌, vec_len}
use Rattle.fl_storage_tests.proofs.lookups.image.Given as goal

abbrev pub invariant-loop-n : goal.invariant-loop-n
invariant-loop-n l = vec_len l.bytes ≡ 768
