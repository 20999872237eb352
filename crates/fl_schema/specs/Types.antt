-- The types of columns, by their names and as columns of the model.
use Rattle.std.specs.Prelude.{ℕ, true, false, List, codes}
use Rattle.fl_model.specs.Record.{Column}
use Rattle.fl_schema.specs.declared.column.ColumnType.{ColumnType}
use Rattle.fl_schema.specs.declared.column.ColumnType.TheVariants.{U8, I8, U16, I16, U32, I32, I64}

abbrev pub name_of : ColumnType → List ℕ
name_of U8 = codes "u8"
name_of I8 = codes "i8"
name_of U16 = codes "u16"
name_of I16 = codes "i16"
name_of U32 = codes "u32"
name_of I32 = codes "i32"
name_of I64 = codes "i64"

abbrev pub column_of : ColumnType → Column
column_of U8 = record { width = 1; signed = false }
column_of I8 = record { width = 1; signed = true }
column_of U16 = record { width = 2; signed = false }
column_of I16 = record { width = 2; signed = true }
column_of U32 = record { width = 4; signed = false }
column_of I32 = record { width = 4; signed = true }
column_of I64 = record { width = 8; signed = true }
