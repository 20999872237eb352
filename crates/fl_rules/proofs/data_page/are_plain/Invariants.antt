use Rattle.std.proofs.Common.{◌≡◌, drop}
use Rattle.fl_page.specs.View.{rows_of}
use Rattle.fl_rules.specs.DataPage.{are_plain}
use Rattle.fl_rules.proofs.data_page.are_plain.Given as goal

abbrev pub invariant-loop-i : goal.invariant-loop-i
invariant-loop-i g l = are_plain (rows_of l.view) ≡ are_plain (drop l.i (rows_of l.view))
