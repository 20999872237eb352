use Rattle.std.proofs.Common.{◌≡◌, Some, take}
use Rattle.fl_bitmap.specs.Bucket.{bitmap_in}
use Rattle.fl_page.specs.View.{rows_of}
use Rattle.fl_rules.proofs.data_page.bitmap_of.Given as goal

abbrev pub invariant-loop-i : goal.invariant-loop-i
invariant-loop-i g l = l.bitmap ≡ bitmap_in (Some l.buckets) (take l.i (rows_of l.view))
