use Rattle.std.proofs.Common.{ap}
use Rattle.fl_schema.specs.Types.{column_of}
use Rattle.fl_schema.specs.declared.column.ColumnType.{ColumnType}
use Rattle.fl_schema.proofs.Numbers.{written}
use Rattle.fl_schema.proofs.column.ColumnType.write.Goals as goal

pub returns-in-U8 : goal.returns-in-U8
returns-in-U8 c = written c.args.self c.args.value 1 c.args.at c.args.into.now _ (ap (λ (of : ColumnType). (column_of of).width) c.in-U8.is) c.ranges.value c.requires.fits c.requires.room c.write_int.ensures

pub returns-in-I8 : goal.returns-in-I8
returns-in-I8 c = written c.args.self c.args.value 1 c.args.at c.args.into.now _ (ap (λ (of : ColumnType). (column_of of).width) c.in-I8.is) c.ranges.value c.requires.fits c.requires.room c.write_int-in-I8.ensures

pub returns-in-U16 : goal.returns-in-U16
returns-in-U16 c = written c.args.self c.args.value 2 c.args.at c.args.into.now _ (ap (λ (of : ColumnType). (column_of of).width) c.in-U16.is) c.ranges.value c.requires.fits c.requires.room c.write_int-in-U16.ensures

pub returns-in-I16 : goal.returns-in-I16
returns-in-I16 c = written c.args.self c.args.value 2 c.args.at c.args.into.now _ (ap (λ (of : ColumnType). (column_of of).width) c.in-I16.is) c.ranges.value c.requires.fits c.requires.room c.write_int-in-I16.ensures

pub returns-in-U32 : goal.returns-in-U32
returns-in-U32 c = written c.args.self c.args.value 4 c.args.at c.args.into.now _ (ap (λ (of : ColumnType). (column_of of).width) c.in-U32.is) c.ranges.value c.requires.fits c.requires.room c.write_int-in-U32.ensures

pub returns-in-I32 : goal.returns-in-I32
returns-in-I32 c = written c.args.self c.args.value 4 c.args.at c.args.into.now _ (ap (λ (of : ColumnType). (column_of of).width) c.in-I32.is) c.ranges.value c.requires.fits c.requires.room c.write_int-in-I32.ensures

pub returns-in-I64 : goal.returns-in-I64
returns-in-I64 c = written c.args.self c.args.value 8 c.args.at c.args.into.now _ (ap (λ (of : ColumnType). (column_of of).width) c.in-I64.is) c.ranges.value c.requires.fits c.requires.room c.write_int-in-I64.ensures
