use Rattle.std.proofs.Common.{◌≡◌, ◌+◌, ◌-◌, ◌%◌, ◌==◌, cond, map, length, ap, ◌∙◌, arith}
use Rattle.std.proofs.lemmas.List.FromFn.{sum_by-map-range_with_len_more}
use Rattle.std.specs.Prelude.{slice_index}
use Rattle.std.specs.List.{count_by, range_with_len}
use Rattle.fl_parts.proofs.Voids.{is-void, not-void, voids_few}
use Rattle.fl_table.proofs.seal.voids_among.Goals as goal
use Rattle.fl_table.proofs.seal.voids_among.Goals.{then-counts-number-eq0, else-counts-number-eq0}

pub loop-number-preserved : goal.loop-number-preserved
loop-number-preserved c =
    let xs = c.args.counts.now in
    let from = c.args.from in
    let number = c.loop-number.number in
    let n = number - c.args.from in
    let inv = c.loop-number.invariant in
    let rows = slice_index xs (number % length xs) in
    let more : number + 1 - from ≡ n + 1 = omega (arith, inv.from) in
    let here : from + n ≡ number = omega (arith, inv.from) in
    let gone : count_by (λ count. count == 0) (map (λ m. slice_index xs (m % length xs)) (range_with_len from (number + 1 - from)))
    ≡ count_by (λ count. count == 0) (map (λ m. slice_index xs (m % length xs)) (range_with_len from n)) + cond (slice_index xs (number % length xs) == 0) 1 0 =
    ap (λ k. count_by (λ count. count == 0) (map (λ m. slice_index xs (m % length xs)) (range_with_len from k))) more
    ∙ sum_by-map-range_with_len_more (λ x. cond (x == 0) 1 0) (λ m. slice_index xs (m % length xs)) from n number here in
    let voids_is : c.if-counts-number-eq0.voids ≡ c.loop-number.voids + cond (slice_index xs (number % length xs) == 0) 1 0 = elim c.if-counts-number-eq0.branch [
      | then-counts-number-eq0 w ↦ is-void rows c.loop-number.voids c.if-counts-number-eq0.voids w.if-counts-number-eq0.true w.voids-is
      | else-counts-number-eq0 w ↦ not-void rows c.loop-number.voids c.if-counts-number-eq0.voids w.if-counts-number-eq0.false w.voids-is
    ] in
    record {
      from = omega (arith, inv.from);
      upto = omega (arith, c.loop-number-test.true);
      voids = omega (arith, voids_is, inv.voids, gone);
      few = omega (arith, voids_few rows c.loop-number.voids c.if-counts-number-eq0.voids voids_is, inv.few, more);
    }
