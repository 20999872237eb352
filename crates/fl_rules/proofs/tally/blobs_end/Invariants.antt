use Rattle.std.proofs.Common.{◌≡◌, take}
use Rattle.fl_model.specs.BlobEnds.{blobs_end}
use Rattle.fl_page.specs.View.{rows_of}
use Rattle.fl_rules.proofs.tally.blobs_end.Given as goal

abbrev pub invariant-loop-i : goal.invariant-loop-i
invariant-loop-i l = l.end ≡ blobs_end l.so_far (take l.i (rows_of l.view))
