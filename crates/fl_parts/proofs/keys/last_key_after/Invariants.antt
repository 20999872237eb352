use Rattle.std.proofs.Common.{◌≡◌, drop}
use Rattle.fl_page.specs.View.{rows_of}
use Rattle.fl_parts.specs.Reading.{keys_fault, last_in}
use Rattle.fl_parts.proofs.keys.last_key_after.Given as goal

abbrev pub invariant-loop-i : goal.invariant-loop-i
invariant-loop-i l = record {
  keys : keys_fault l.number l.initial.so_far (rows_of l.view) ≡ keys_fault l.initial.number l.so_far (drop l.i (rows_of l.view));
  last : last_in l.initial.so_far (rows_of l.view) ≡ last_in l.so_far (drop l.i (rows_of l.view));
}
