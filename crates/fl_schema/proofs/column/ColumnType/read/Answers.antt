use Rattle.std.proofs.Common.{◌+◌, ◌≤◌, length, subst, lit≤}
use Rattle.fl_schema.specs.Types.{column_of}
use Rattle.fl_schema.specs.declared.column.ColumnType.{ColumnType}
use Rattle.fl_schema.specs.declared.column.ColumnType.TheVariants.{U8, I8, U16, I16, U32, I32, I64}
use Rattle.fl_schema.proofs.Numbers.{value_as}
use Rattle.fl_schema.proofs.column.ColumnType.read.Goals as goal

pub read_unsigned-requires-clause-some : goal.read_unsigned-requires-clause-some
read_unsigned-requires-clause-some c = lit≤ tt

pub read_unsigned-requires-clause-few : goal.read_unsigned-requires-clause-few
read_unsigned-requires-clause-few c = lit≤ tt

pub read_unsigned-requires-clause-room : goal.read_unsigned-requires-clause-room
read_unsigned-requires-clause-room c = subst (λ (of : ColumnType). c.args.at + (column_of of).width ≤ length c.args.from.now) c.in-U8.is c.requires

pub returns-in-U8 : goal.returns-in-U8
returns-in-U8 c = value_as c.args.self U8 c.args.at c.args.from.now c.read_unsigned.result c.in-U8.is (record { sfits = c.read_unsigned.type_inv }) c.read_unsigned.ensures

pub read_signed-requires-clause-some : goal.read_signed-requires-clause-some
read_signed-requires-clause-some c = lit≤ tt

pub read_signed-requires-clause-few : goal.read_signed-requires-clause-few
read_signed-requires-clause-few c = lit≤ tt

pub read_signed-requires-clause-room : goal.read_signed-requires-clause-room
read_signed-requires-clause-room c = subst (λ (of : ColumnType). c.args.at + (column_of of).width ≤ length c.args.from.now) c.in-I8.is c.requires

pub returns-in-I8 : goal.returns-in-I8
returns-in-I8 c = value_as c.args.self I8 c.args.at c.args.from.now c.read_signed.result c.in-I8.is (record { sfits = c.read_signed.type_inv }) c.read_signed.ensures

pub read_unsigned-requires-in-U16-clause-some : goal.read_unsigned-requires-in-U16-clause-some
read_unsigned-requires-in-U16-clause-some c = lit≤ tt

pub read_unsigned-requires-in-U16-clause-few : goal.read_unsigned-requires-in-U16-clause-few
read_unsigned-requires-in-U16-clause-few c = lit≤ tt

pub read_unsigned-requires-in-U16-clause-room : goal.read_unsigned-requires-in-U16-clause-room
read_unsigned-requires-in-U16-clause-room c = subst (λ (of : ColumnType). c.args.at + (column_of of).width ≤ length c.args.from.now) c.in-U16.is c.requires

pub returns-in-U16 : goal.returns-in-U16
returns-in-U16 c = value_as c.args.self U16 c.args.at c.args.from.now c.read_unsigned-in-U16.result c.in-U16.is (record { sfits = c.read_unsigned-in-U16.type_inv }) c.read_unsigned-in-U16.ensures

pub read_signed-requires-in-I16-clause-some : goal.read_signed-requires-in-I16-clause-some
read_signed-requires-in-I16-clause-some c = lit≤ tt

pub read_signed-requires-in-I16-clause-few : goal.read_signed-requires-in-I16-clause-few
read_signed-requires-in-I16-clause-few c = lit≤ tt

pub read_signed-requires-in-I16-clause-room : goal.read_signed-requires-in-I16-clause-room
read_signed-requires-in-I16-clause-room c = subst (λ (of : ColumnType). c.args.at + (column_of of).width ≤ length c.args.from.now) c.in-I16.is c.requires

pub returns-in-I16 : goal.returns-in-I16
returns-in-I16 c = value_as c.args.self I16 c.args.at c.args.from.now c.read_signed-in-I16.result c.in-I16.is (record { sfits = c.read_signed-in-I16.type_inv }) c.read_signed-in-I16.ensures

pub read_unsigned-requires-in-U32-clause-some : goal.read_unsigned-requires-in-U32-clause-some
read_unsigned-requires-in-U32-clause-some c = lit≤ tt

pub read_unsigned-requires-in-U32-clause-few : goal.read_unsigned-requires-in-U32-clause-few
read_unsigned-requires-in-U32-clause-few c = lit≤ tt

pub read_unsigned-requires-in-U32-clause-room : goal.read_unsigned-requires-in-U32-clause-room
read_unsigned-requires-in-U32-clause-room c = subst (λ (of : ColumnType). c.args.at + (column_of of).width ≤ length c.args.from.now) c.in-U32.is c.requires

pub returns-in-U32 : goal.returns-in-U32
returns-in-U32 c = value_as c.args.self U32 c.args.at c.args.from.now c.read_unsigned-in-U32.result c.in-U32.is (record { sfits = c.read_unsigned-in-U32.type_inv }) c.read_unsigned-in-U32.ensures

pub read_signed-requires-in-I32-clause-some : goal.read_signed-requires-in-I32-clause-some
read_signed-requires-in-I32-clause-some c = lit≤ tt

pub read_signed-requires-in-I32-clause-few : goal.read_signed-requires-in-I32-clause-few
read_signed-requires-in-I32-clause-few c = lit≤ tt

pub read_signed-requires-in-I32-clause-room : goal.read_signed-requires-in-I32-clause-room
read_signed-requires-in-I32-clause-room c = subst (λ (of : ColumnType). c.args.at + (column_of of).width ≤ length c.args.from.now) c.in-I32.is c.requires

pub returns-in-I32 : goal.returns-in-I32
returns-in-I32 c = value_as c.args.self I32 c.args.at c.args.from.now c.read_signed-in-I32.result c.in-I32.is (record { sfits = c.read_signed-in-I32.type_inv }) c.read_signed-in-I32.ensures

pub read_signed-requires-in-I64-clause-some : goal.read_signed-requires-in-I64-clause-some
read_signed-requires-in-I64-clause-some c = lit≤ tt

pub read_signed-requires-in-I64-clause-few : goal.read_signed-requires-in-I64-clause-few
read_signed-requires-in-I64-clause-few c = lit≤ tt

pub read_signed-requires-in-I64-clause-room : goal.read_signed-requires-in-I64-clause-room
read_signed-requires-in-I64-clause-room c = subst (λ (of : ColumnType). c.args.at + (column_of of).width ≤ length c.args.from.now) c.in-I64.is c.requires

pub returns-in-I64 : goal.returns-in-I64
returns-in-I64 c = value_as c.args.self I64 c.args.at c.args.from.now c.read_signed-in-I64.result c.in-I64.is (record { sfits = c.read_signed-in-I64.type_inv }) c.read_signed-in-I64.ensures
