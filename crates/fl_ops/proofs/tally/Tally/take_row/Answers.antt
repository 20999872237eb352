use Rattle.std.proofs.Common.{rules, FitsSigned}
use Rattle.std.specs.Int.{w128}
use Rattle.std.proofs.lemmas.Int.{to_z-of_z, fits_signed_from_abs}
use Rattle.fl_schema.specs.Schema.{row_of}
use Rattle.fl_ops.proofs.Sums.{sum_small}
use Rattle.fl_ops.proofs.tally.Tally.take_row.Goals as goal

pub take-requires-clause-sum : goal.take-requires-clause-sum
take-requires-clause-sum c =
    let fits : FitsSigned w128 c.column.result = search rules in
    simp to_z-of_z (fits_signed_from_abs w128 _ (sum_small c.args.number (row_of c.args.row.now).key c.args.self.now c.column.result c.requires.bounds c.requires.count c.column.ensures.small c.column.ensures.key c.column.ensures.value_small))
