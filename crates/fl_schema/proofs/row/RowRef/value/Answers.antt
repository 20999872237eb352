use Rattle.std.proofs.Common.{arith, ◌<◌, length, rules}
use Rattle.fl_schema.specs.declared.column.ColumnType.TheVariants.{U8}
use Rattle.fl_schema.proofs.Places.{length-columns_in, place_within, value_read}
use Rattle.fl_schema.proofs.row.RowRef.value.Goals as goal

pub read-requires : goal.read-requires
read-requires c =
    let lt : c.args.i < length c.args.self.now.kind.columns.now = omega (arith, length-columns_in c.args.self.now.kind.columns.now, c.requires) in
    let within = place_within c.args.self.now.kind.key c.args.self.now.kind.columns.now c.args.i (record { of = U8; at = 0 }) c.args.self.now.kind.placed lt in
    omega (arith, within, c.args.self.now.whole)

pub returns : goal.returns
returns c =
    let lt : c.args.i < length c.args.self.now.kind.columns.now = omega (arith, length-columns_in c.args.self.now.kind.columns.now, c.requires) in
    value_read c.args.self.now.kind.key c.args.self.now.kind.columns.now c.args.self.now.bytes.now c.args.i (record { of = U8; at = 0 }) c.read.result c.args.self.now.kind.placed lt (search rules) c.read.ensures
