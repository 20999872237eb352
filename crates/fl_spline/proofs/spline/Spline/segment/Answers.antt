use Rattle.std.proofs.Common.{rules, leb, ◌≡◌, true, false}
use Rattle.std.proofs.lemmas.List.Sorted.{IsPartitionedBy-leb, IsPartitionPoint-from_clause}
use Rattle.std.specs.List.Sorted.{IsPartitionPoint}
use Rattle.fl_spline.specs.Points.{Rises}
use Rattle.fl_spline.proofs.Segments.{keys-rise, segment-is}
use Rattle.fl_spline.proofs.spline.Spline.segment.Goals as goal

pub returns : goal.returns
returns g c =
    let up : Rises c.args.self.now.knots.items = search rules in
    let ks = c.as_slice.result.now in
    let key = c.args.key in
    let point : IsPartitionPoint (λ k. leb k.0 key ≡ true) (λ k. leb k.0 key ≡ false) ks c.partition_point.result
    = IsPartitionPoint-from_clause (λ k. leb k.0 key) ks c.partition_point.result c.partition_point.ensures.partitioned
    (IsPartitionedBy-leb (λ k. k.0) ks key (rw c.as_slice.ensures.value (keys-rise c.args.self.now.knots.items up))) (λ a r f k. search rules) in
    rw c.as_slice.ensures.value at (segment-is ks key c.partition_point.result c.checked_sub.result c.partition_point.ensures.bound point c.checked_sub.ensures)
