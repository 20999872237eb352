use Rattle.std.proofs.Common.{◌≡◌, ◌+◌, ◌-◌, ◌%◌, ◌≤◌, ◌==◌, map, length}
use Rattle.std.specs.Prelude.{slice_index}
use Rattle.std.specs.List.{range_with_len, count_by}
use Rattle.fl_table.proofs.seal.voids_among.Given as goal

abbrev pub invariant-loop-number : goal.invariant-loop-number
invariant-loop-number l = record {
  from : l.from ≤ l.number;
  upto : l.number ≤ l.to + (l.from - l.to);
  voids : l.voids ≡ count_by (λ count. count == 0) (map (λ n. slice_index l.counts (n % length l.counts)) (range_with_len l.from (l.number - l.from)));
  few : l.voids ≤ l.number - l.from;
}
